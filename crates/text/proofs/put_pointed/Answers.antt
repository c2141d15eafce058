-- `put_pointed` meets its contract: the whole ones, the point and the decimals are put one after
-- the other.
use Rattle.text.specs.Text.{pointed}
use Rattle.text.proofs.Putting.{then}
use Rattle.text.proofs.put_pointed.Goals as goal

pub returns : goal.returns
unfolding pointed
returns c =
    let whole = rw c.whole_ones.ensures at c.put_decimal-i.ensures in
    then _ _ _ _ _ _ (then _ _ _ _ _ _ whole _ _ c.put-j.ensures) _ _ c.put_digits.ensures
