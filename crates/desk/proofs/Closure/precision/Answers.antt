-- `precision` meets its contract: the step gives its value, since closures and distance are in
-- range.
use Rattle.desk.proofs.Settling.{precision_there, precision_value}
use Rattle.desk.proofs.Closure.precision.Goals as goal

pub unwrap-requires : goal.unwrap-requires
unwrap-requires c = search precision_there

pub returns : goal.returns
returns c = search precision_value
