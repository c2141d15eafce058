-- `project` meets its contract: one that passes all tests has a row of its latitude.
use borrow.Author.Rules.{rules}
use Rattle.tape.proofs.order.Passing.{project_passes}
use Rattle.tape.proofs.order.project.Goals as goal

pub returns : goal.returns
returns c = search (project_passes, rules)
