-- `sea_level` meets its contract: below zero the elevation takes its feet off the radius, else it
-- adds them; so the divisor is never small.
use Rattle.std.proofs.Common.{rules}
use Rattle.answer.proofs.Telling.{ranges}
use Rattle.steps.proofs.distance.Distances.{below_good, below_not, above_good, above_not}
use Rattle.steps.proofs.distance.Distances.{sea_below, sea_above}
use Rattle.steps.proofs.distance.sea_level.Goals as goal

pub returns-in_err-at_most : goal.returns-in_err-at_most
returns-in_err-at_most c = search (rules, below_not, ranges) depth 8

pub returns-then-below_zero : goal.returns-then-below_zero
returns-then-below_zero c = search (rules, sea_below, below_good, ranges) depth 8

pub returns-in_err-at_most-2 : goal.returns-in_err-at_most-2
returns-in_err-at_most-2 c = search (rules, above_not, ranges) depth 8

pub returns : goal.returns
returns c = search (rules, sea_above, above_good, ranges) depth 8
