-- `combined` meets its contract: the step gives its value, since both factors are in range.
use borrow.Author.Rules.{Fits-under}
use mir.Syntax.{w32}
use Rattle.desk.proofs.Scaling.{combined_there, combined_is, combined_high}
use Rattle.desk.proofs.factor.combined.Goals as goal

pub unwrap-requires : goal.unwrap-requires
unwrap-requires c = search combined_there

pub overflow_cast-result : goal.overflow_cast-result
overflow_cast-result c = Fits-under w32 _ 10020011 (search combined_high) tt

pub returns : goal.returns
returns c = search combined_is
