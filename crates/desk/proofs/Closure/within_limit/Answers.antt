-- `within_limit` meets its contract: the step tells whether the test passes, since closures and
-- distance are in range.
use Rattle.desk.proofs.Settling.{within_there, within_is}
use Rattle.desk.proofs.Closure.within_limit.Goals as goal

pub unwrap-requires : goal.unwrap-requires
unwrap-requires c = search within_there

pub returns : goal.returns
returns c = search within_is
