use mathlib.Core.Path.{refl}
use Rattle.desk.specs.Inside.{put_to}
use Rattle.desk.proofs.Settling.{put_next}
use Rattle.desk.proofs.coordinates.put_all.Goals as goal

pub loop-k-init : goal.loop-k-init
unfolding put_to
loop-k-init c = refl

pub loop-k-preserved : goal.loop-k-preserved
loop-k-preserved c = search put_next
