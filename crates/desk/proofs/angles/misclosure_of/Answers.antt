-- `misclosure_of` meets its contract: the step gives its value, since both azimuths are within the
-- circle.
use Rattle.desk.proofs.Balancing.{misclosure_there, misclosure_value, misclosure_small}
use Rattle.desk.proofs.angles.misclosure_of.Goals as goal

pub unwrap-requires : goal.unwrap-requires
unwrap-requires c = search misclosure_there

pub returns-clause-is : goal.returns-clause-is
returns-clause-is c = search misclosure_value

pub returns-clause-size : goal.returns-clause-size
returns-clause-size c = search misclosure_small
