-- `both_in` meets its contract: what the angle leaves to 90 degrees lies as many tenths past its
-- own minute as the angle lies before the next.
use native.Mathlib.Omega.{arith}
use Rattle.sines.proofs.Own.{lent_quarter}
use Rattle.sines.proofs.both_in.Goals as goal

pub returns-clause-cosine : goal.returns-clause-cosine
returns-clause-cosine c =
    lent_quarter _ _ _ _ _ (omega arith) (omega arith) c.past_minute-2.ensures.is

pub returns-clause-sine : goal.returns-clause-sine
returns-clause-sine c = lent_quarter _ _ _ _ _ (omega arith) (omega arith) c.past_minute.ensures.is
