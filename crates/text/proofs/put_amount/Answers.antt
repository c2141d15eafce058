-- `put_amount` meets its contract: the sign, and the size with its decimals after it.
use Rattle.text.specs.Text.{amount}
use Rattle.text.proofs.Putting.{then}
use Rattle.text.proofs.put_amount.Goals as goal

pub returns : goal.returns
unfolding amount
returns c =
    then _ _ _ _ _ _ c.put_sign-i.ensures _ _ (rw c.size.ensures at c.put_pointed.ensures)
