-- `precision` meets its contract: P is the whole root of the quotient, since P squared times the
-- divisor is at most S squared just where P squared is at most the quotient. The rule is shown of
-- that root itself, and not by the number of the definition.
use Rattle.std.proofs.Common.{rules}
use Rattle.answer.proofs.Telling.{ranges}
use Rattle.steps.proofs.Rooting.{not_standing, standing, no_closure, some_closure}
use Rattle.steps.proofs.Rooting.{none_told, zero_told, largest_told}
use Rattle.steps.proofs.closure.precision.Goals as goal

pub returns-in_err-closures_stand-clause-rule : goal.returns-in_err-closures_stand-clause-rule
returns-in_err-closures_stand-clause-rule c = search (rules, none_told)

pub returns-in_err-closures_stand-clause-is : goal.returns-in_err-closures_stand-clause-is
returns-in_err-closures_stand-clause-is c = search (rules, not_standing, ranges) depth 8

pub returns-then-both-eq0-clause-rule : goal.returns-then-both-eq0-clause-rule
returns-then-both-eq0-clause-rule c = search (rules, zero_told)

pub returns-then-both-eq0-clause-is : goal.returns-then-both-eq0-clause-is
returns-then-both-eq0-clause-is c = search (rules, standing, no_closure, ranges) depth 8

pub returns-clause-rule : goal.returns-clause-rule
returns-clause-rule c = search (rules, largest_told)

pub returns-clause-is : goal.returns-clause-is
returns-clause-is c = search (rules, standing, some_closure, ranges) depth 8
