-- `cosine_in` meets its contract: the angle a right angle ahead folds to what the folded angle
-- leaves to 90 degrees.
use Rattle.std.proofs.Common.{rules}
use Rattle.answer.specs.Told.{told}
use Rattle.sines.proofs.Turns.{no_angle, cosine_told}
use Rattle.sines.proofs.cosine_in.Goals as goal

pub returns-in_err-in_circle-clause-is : goal.returns-in_err-in_circle-clause-is
returns-in_err-in_circle-clause-is c = search (rules, no_angle)

pub returns-in_err-in_circle-clause-size : goal.returns-in_err-in_circle-clause-size
unfolding told
returns-in_err-in_circle-clause-size c = search rules

pub returns-clause-is : goal.returns-clause-is
returns-clause-is c = search (rules, cosine_told)

pub returns-clause-size : goal.returns-clause-size
unfolding told
returns-clause-size c = search rules
