-- `onward` meets its contract: two angles of the circle and half a circle, their sum taken modulo
-- the circle.
use Rattle.std.proofs.Common.{rules}
use Rattle.answer.proofs.Telling.{ranges}
use Rattle.steps.proofs.azimuth.onward.Goals as goal

pub returns-in_err-in_circle : goal.returns-in_err-in_circle
returns-in_err-in_circle c = search (rules, ranges) depth 8

pub returns-in_err-in_circle-2 : goal.returns-in_err-in_circle-2
returns-in_err-in_circle-2 c = search (rules, ranges) depth 8

pub returns : goal.returns
returns c = search (rules, ranges) depth 8
