use mathlib.Core.Path.{refl}
use Rattle.whole.specs.Filled.{filled}
use Rattle.desk.proofs.Balancing.{balancing_turned, balancing_next, balancing_last}
use Rattle.desk.proofs.angles.balance.Goals as goal

pub loop-k-init : goal.loop-k-init
unfolding filled
loop-k-init c = refl

pub balanced_azimuth-leg-requires-clause-azimuth_lt_circle :
    goal.balanced_azimuth-leg-requires-clause-azimuth_lt_circle
balanced_azimuth-leg-requires-clause-azimuth_lt_circle c = search balancing_turned

pub loop-k-preserved : goal.loop-k-preserved
loop-k-preserved c = search balancing_next

pub returns : goal.returns
returns c = search balancing_last
