-- `grid_distance` meets its contract: the step gives its value, since distance and factor are in
-- range.
use Rattle.desk.proofs.Running.{grid_there, grid_is, grid_small}
use Rattle.desk.proofs.legs.grid_distance.Goals as goal

pub unwrap-requires : goal.unwrap-requires
unwrap-requires c = search grid_there

pub returns-clause-is : goal.returns-clause-is
returns-clause-is c = search grid_is

pub returns-clause-size : goal.returns-clause-size
returns-clause-size c = search grid_small
