-- `moved` meets its contract: a sine is its size with its sign.
use Rattle.steps.proofs.Moving.{by_sign}
use Rattle.steps.proofs.course.moved.Goals as goal

pub returns : goal.returns
returns c = search by_sign
