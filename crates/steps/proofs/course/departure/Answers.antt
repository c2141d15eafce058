-- `departure` meets its contract: by the desk's own table a move is the rules'.
use Rattle.steps.proofs.Moving.{own_move}
use Rattle.steps.proofs.course.departure.Goals as goal

pub returns : goal.returns
returns c = search own_move
