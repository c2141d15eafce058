-- `advance` meets its contract: the steps give their values, since the leg is in range, and the
-- moves of the leg are small enough to be added.
use borrow.Author.Rules.{rules}
use Rattle.desk.proofs.Running.{moves_there, moves_slight, advanced_is}
use Rattle.desk.proofs.legs.advance.Goals as goal

pub unwrap-moves-requires : goal.unwrap-moves-requires
unwrap-moves-requires c = search moves_there

pub plus-requires : goal.plus-requires
plus-requires c = (search rules, search moves_slight)

pub returns : goal.returns
returns c = search advanced_is
