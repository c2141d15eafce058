use borrow.Author.Rules.{rules}
use mathlib.Core.Path.{refl}
use Rattle.whole.specs.Sum.{sum_to}
use Rattle.steps.specs.Area.{doubled_to}
use Rattle.desk.proofs.area.Looping.{here_ranged, there_ranged, next_is, sum_on, sum_last}
use Rattle.desk.proofs.area.round.Goals as goal

pub loop-k-init : goal.loop-k-init
unfolding doubled_to sum_to
loop-k-init c = record { here = search rules; sum = refl; size = search rules }

pub cross-requires : goal.cross-requires
cross-requires c =
    (search (here_ranged, there_ranged), search (here_ranged, there_ranged))

pub loop-k-preserved : goal.loop-k-preserved
loop-k-preserved c = record { here = search next_is; sum = search sum_on; size = search rules }

pub returns : goal.returns
returns c = search sum_last
