-- `with_pair` meets its contract: the digit takes away no more than there is, and the working is
-- that of the definition.
use Rattle.steps.specs.Root.{with_pair}
use Rattle.steps.proofs.root.ByDigits.{digit_fits}
use Rattle.steps.proofs.root.Working.with_pair.Goals as goal

pub overflow_sub-result : goal.overflow_sub-result
overflow_sub-result c = search digit_fits

pub returns : goal.returns
unfolding with_pair
returns c = cc
