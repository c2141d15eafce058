-- `between` meets its contract: a rising line by `rise`, and a falling one down by a part of the
-- difference.
use native.Mathlib.Omega.{arith}
use Rattle.sines.proofs.Line.{falling}
use Rattle.sines.proofs.between.Goals as goal

pub returns-clause-is : goal.returns-clause-is
returns-clause-is c =
    let s = c.args in
    rw (c.half_up.ensures.is, c.from.ensures, c.from-2.ensures)
    (falling s.e s.f s.r (omega arith) (omega arith))
