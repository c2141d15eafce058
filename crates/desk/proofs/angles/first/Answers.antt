-- `first` meets its contract: the step gives its value, since both angles are within the circle.
use borrow.Author.Rules.{Fits-under}
use mir.Syntax.{w32}
use Rattle.desk.proofs.Balancing.{azimuth_there, azimuth_is, azimuth_turned}
use Rattle.desk.proofs.angles.first.Goals as goal

pub unwrap-requires : goal.unwrap-requires
unwrap-requires c = search azimuth_there

pub overflow_cast-result : goal.overflow_cast-result
overflow_cast-result c = Fits-under w32 _ 12960000 (search azimuth_turned) tt

pub returns-clause-is : goal.returns-clause-is
returns-clause-is c = search azimuth_is

pub returns-clause-turned : goal.returns-clause-turned
returns-clause-turned c = search azimuth_turned
