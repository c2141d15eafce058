-- `move_by` meets its contract: the rounded size of the product with the sign opposite to the
-- sine's is the rounded product, negated.
use Rattle.std.proofs.Common.{rules}
use Rattle.steps.proofs.Moving.{by_negative, by_positive}
use Rattle.steps.proofs.course.move_by.Goals as goal

pub returns-then-sine : goal.returns-then-sine
returns-then-sine c = search (rules, by_negative)

pub returns : goal.returns
returns c = search (rules, by_positive)
