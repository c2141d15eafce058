-- `part_of` meets its contract: the step gives the share, since closure and distances are in range.
use Rattle.desk.proofs.Settling.{share_there, share_is, share_small}
use Rattle.desk.proofs.coordinates.part_of.Goals as goal

pub unwrap-requires : goal.unwrap-requires
unwrap-requires c = search share_there

pub returns-clause-is : goal.returns-clause-is
returns-clause-is c = search share_is

pub returns-clause-size : goal.returns-clause-size
returns-clause-size c = search share_small
