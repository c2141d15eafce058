-- `past_minute` meets its contract: a table has a minute and the next, each counts as in the
-- definition of a lent table's entries, and the line goes between them. Where the entries rise and
-- are at most 1, each counts as it stands.
use native.Mathlib.Omega.{arith}
use Rattle.sines.proofs.Own.{lent_line}
use Rattle.sines.proofs.past_minute.Goals as goal

pub returns-then-f-le-NINE_DECIMALS-clause-is : goal.returns-then-f-le-NINE_DECIMALS-clause-is
returns-then-f-le-NINE_DECIMALS-clause-is c =
    lent_line _ _ _ _ _ c.rise.ensures.is _ (omega arith) (omega arith) (omega arith)

pub returns-clause-is : goal.returns-clause-is
returns-clause-is c = search lent_line
