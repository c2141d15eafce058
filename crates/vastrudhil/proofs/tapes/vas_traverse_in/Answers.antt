-- `vas_traverse_in` tells what `traverse_in` answers, and leaves what it leaves.
use Rattle.vastrudhil.proofs.Figures.{lent_fits}
use Rattle.vastrudhil.proofs.tapes.vas_traverse_in.Goals as goal

pub answer-requires : goal.answer-requires
answer-requires c = search lent_fits
