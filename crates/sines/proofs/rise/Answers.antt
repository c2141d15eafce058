-- `rise` meets its contract: the rule in sizes, up by a part of the difference.
use native.Mathlib.Omega.{arith}
use Rattle.sines.proofs.Line.{rising}
use Rattle.sines.proofs.rise.Goals as goal

pub returns-clause-is : goal.returns-clause-is
returns-clause-is c =
    let s = c.args in
    rw (c.half_up.ensures.is, c.from.ensures, c.from-2.ensures)
    (rising s.e s.f s.r (omega arith))
