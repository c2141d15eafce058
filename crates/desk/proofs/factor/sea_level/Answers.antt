-- `sea_level` meets its contract: the step gives its value, since the elevation is in range.
use Rattle.desk.proofs.Scaling.{sea_there, sea_is, sea_low, sea_high}
use Rattle.desk.proofs.factor.sea_level.Goals as goal

pub unwrap-requires : goal.unwrap-requires
unwrap-requires c = search sea_there

pub returns-clause-is : goal.returns-clause-is
returns-clause-is c = search sea_is

pub returns-clause-size : goal.returns-clause-size
returns-clause-size c = (search sea_low, search sea_high)
