-- `balanced` meets its contract: a share below zero is added, another taken off after a whole
-- circle is put in; the circle drops out again.
use Rattle.std.proofs.Common.{rules}
use Rattle.answer.proofs.Telling.{ranges}
use Rattle.steps.proofs.Turning.{balanced_below, balanced_above}
use Rattle.steps.proofs.azimuth.balanced.Goals as goal

pub returns-in_err-in_circle : goal.returns-in_err-in_circle
returns-in_err-in_circle c = search (rules, ranges) depth 8

pub returns-in_err-at_most : goal.returns-in_err-at_most
returns-in_err-at_most c = search (rules, ranges) depth 8

pub returns-then-below_zero : goal.returns-then-below_zero
returns-then-below_zero c = search (rules, balanced_below, ranges) depth 8

pub returns : goal.returns
returns c = search (rules, balanced_above, ranges) depth 8
