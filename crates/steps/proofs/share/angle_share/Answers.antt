-- `angle_share` meets its contract: each test is a bound of the range, and in range the share is
-- the rule.
use Rattle.std.proofs.Common.{rules}
use Rattle.answer.proofs.Telling.{ranges}
use Rattle.steps.proofs.Ranges.{outside}
use Rattle.steps.proofs.share.angle_share.Goals as goal

pub returns-in_err-at_most : goal.returns-in_err-at_most
returns-in_err-at_most c = search (rules, ranges) depth 8

pub returns-in_err-inside : goal.returns-in_err-inside
returns-in_err-inside c = search (rules, outside, ranges) depth 8

pub returns-then-n-j : goal.returns-then-n-j
returns-then-n-j c = search (rules, ranges) depth 8

pub returns : goal.returns
returns c = search (rules, ranges) depth 8
