-- `sine_in` meets its contract: the folded angle's sine, with its sign turned past 180 degrees.
use Rattle.std.proofs.Common.{rules}
use Rattle.answer.specs.Told.{told}
use Rattle.sines.proofs.Turns.{no_angle, sine_told}
use Rattle.sines.proofs.sine_in.Goals as goal

pub returns-in_err-in_circle-clause-is : goal.returns-in_err-in_circle-clause-is
returns-in_err-in_circle-clause-is c = search (rules, no_angle)

pub returns-in_err-in_circle-clause-size : goal.returns-in_err-in_circle-clause-size
unfolding told
returns-in_err-in_circle-clause-size c = search rules

pub returns-clause-is : goal.returns-clause-is
returns-clause-is c = search (rules, sine_told)

pub returns-clause-size : goal.returns-clause-size
unfolding told
returns-clause-size c = search rules
