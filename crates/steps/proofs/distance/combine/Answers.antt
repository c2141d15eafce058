-- `combine` meets its contract: each test is a range, and in range the product is far below 2 ^ 63.
use Rattle.std.proofs.Common.{rules}
use Rattle.answer.proofs.Telling.{ranges}
use Rattle.steps.proofs.Ranges.{outside}
use Rattle.steps.specs.Distance.{combine}
use Rattle.steps.proofs.distance.combine.Goals as goal

pub returns-in_err-inside : goal.returns-in_err-inside
returns-in_err-inside c = search (rules, outside, ranges) depth 8

pub returns-in_err-inside-2 : goal.returns-in_err-inside-2
returns-in_err-inside-2 c = search (rules, outside, ranges) depth 8

pub returns : goal.returns
unfolding combine
returns c = search (rules, ranges) depth 8
