-- `closes` meets its contract: the ranges are those of the definition, and the inequality of the
-- rules holds just where it holds divided by 50,000 squared.
use Rattle.std.proofs.Common.{rules}
use Rattle.answer.proofs.Telling.{ranges}
use Rattle.steps.proofs.Rooting.{not_standing, standing, closes_is}
use Rattle.steps.proofs.closure.closes.Goals as goal

pub returns-in_err-closures_stand : goal.returns-in_err-closures_stand
returns-in_err-closures_stand c = search (rules, not_standing, ranges) depth 8

pub returns : goal.returns
returns c = search (rules, standing, closes_is, ranges) depth 8
