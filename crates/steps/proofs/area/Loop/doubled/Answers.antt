use mathlib.Core.Path.{refl}
use native.Mathlib.Omega.{arith}
use Rattle.whole.specs.Sum.{sum_to}
use Rattle.steps.specs.Area.{doubled_to}
use Rattle.steps.proofs.Areas.{round_next}
use Rattle.steps.proofs.area.Loop.doubled.Goals as goal

pub loop-i-init : goal.loop-i-init
unfolding doubled_to sum_to
loop-i-init c = (omega arith, refl, omega arith)

pub loop-i-preserved : goal.loop-i-preserved
loop-i-preserved c = (omega arith, search round_next, omega arith)
