-- `balanced_azimuth` meets its contract: both steps give their values, since a share of a
-- misclosure is no larger than that.
use borrow.Author.Rules.{Fits-under}
use mir.Syntax.{w32}
use Rattle.desk.proofs.Balancing.{part_there, balanced_there, balanced_is, balanced_turned}
use Rattle.desk.proofs.angles.balanced_azimuth.Goals as goal

pub unwrap-part-requires : goal.unwrap-part-requires
unwrap-part-requires c = search part_there

pub unwrap-requires : goal.unwrap-requires
unwrap-requires c = search balanced_there

pub overflow_cast-result : goal.overflow_cast-result
overflow_cast-result c = Fits-under w32 _ 12960000 (search balanced_turned) tt

pub returns-clause-is : goal.returns-clause-is
returns-clause-is c = search balanced_is

pub returns-clause-turned : goal.returns-clause-turned
returns-clause-turned c = search balanced_turned
