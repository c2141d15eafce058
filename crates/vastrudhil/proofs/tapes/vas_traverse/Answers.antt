-- `vas_traverse` tells what `traverse` answers, and leaves what it leaves.
use Rattle.vastrudhil.proofs.Figures.{own_fits}
use Rattle.vastrudhil.proofs.tapes.vas_traverse.Goals as goal

pub answer-requires : goal.answer-requires
answer-requires c = search own_fits
