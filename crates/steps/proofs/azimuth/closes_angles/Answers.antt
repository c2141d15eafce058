-- `closes_angles` meets its contract: the size is compared as the rules say.
use Rattle.std.proofs.Common.{rules}
use Rattle.answer.proofs.Telling.{ranges}
use Rattle.steps.proofs.Ranges.{outside}
use Rattle.steps.specs.Azimuth.{closes_angles}
use Rattle.steps.proofs.azimuth.closes_angles.Goals as goal

pub returns-in_err-at_most : goal.returns-in_err-at_most
returns-in_err-at_most c = search (rules, ranges) depth 8

pub returns-in_err-inside : goal.returns-in_err-inside
returns-in_err-inside c = search (rules, outside, ranges) depth 8

pub returns : goal.returns
unfolding closes_angles
returns c = search (rules, ranges) depth 8
