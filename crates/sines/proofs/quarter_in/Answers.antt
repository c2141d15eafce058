-- `quarter_in` meets its contract: from the minute that `minute` gives the angle is at most 600
-- tenths on, and the rule is the same from there.
use native.Mathlib.Omega.{arith}
use Rattle.sines.proofs.Own.{lent_quarter}
use Rattle.sines.proofs.quarter_in.Goals as goal

pub returns-clause-is : goal.returns-clause-is
returns-clause-is c = lent_quarter _ _ _ _ _ (omega arith) (omega arith) c.past_minute.ensures.is
