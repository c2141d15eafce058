-- `step` meets its contract: each case stores its value and returns its number.
use Rattle.std.proofs.Common.{rules}
use Rattle.vastrudhil.proofs.Telling.{step_is, step_out}
use Rattle.vastrudhil.proofs.tell.step.Goals as goal

pub returns-in-Ok : goal.returns-in-Ok
returns-in-Ok g c = search step_is

pub returns-in-Err : goal.returns-in-Err
returns-in-Err g c = search (rules, step_out)
