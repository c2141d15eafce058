-- `misclosure` meets its contract: the difference modulo the circle is the amount itself up to half
-- a circle, and past that the opposite of what is left.
use Rattle.std.proofs.Common.{rules}
use Rattle.answer.proofs.Telling.{ranges}
use Rattle.steps.proofs.Turning.{near_side, far_side}
use Rattle.steps.proofs.azimuth.misclosure.Goals as goal

pub returns-in_err-in_circle : goal.returns-in_err-in_circle
returns-in_err-in_circle c = search (rules, ranges) depth 8

pub returns-in_err-in_circle-2 : goal.returns-in_err-in_circle-2
returns-in_err-in_circle-2 c = search (rules, ranges) depth 8

pub returns-then-d-le-HALF_CIRCLE : goal.returns-then-d-le-HALF_CIRCLE
returns-then-d-le-HALF_CIRCLE c = search (rules, near_side, ranges) depth 8

pub returns : goal.returns
returns c = search (rules, far_side, ranges) depth 8
