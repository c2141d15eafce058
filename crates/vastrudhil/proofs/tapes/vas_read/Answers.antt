-- `vas_read` tells what `take` answers.
use Rattle.vastrudhil.proofs.Telling.{reading_as}
use Rattle.vastrudhil.proofs.tapes.vas_read.Goals as goal

pub returns : goal.returns
returns c = search reading_as
