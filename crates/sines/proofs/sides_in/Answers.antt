-- `sides_in` meets its contract: the sizes are those of the folded angle and of what it leaves to
-- 90 degrees, and the signs are by the halves of the circle.
use Rattle.std.proofs.Common.{rules, refl}
use Rattle.sines.proofs.Turns.{no_angle, sides_are, sine_told, cosine_told}
use Rattle.sines.proofs.sides_in.Goals as goal

pub returns-in_err-in_circle-clause-sine : goal.returns-in_err-in_circle-clause-sine
returns-in_err-in_circle-clause-sine c = search (rules, no_angle)

pub returns-in_err-in_circle-clause-cosine : goal.returns-in_err-in_circle-clause-cosine
returns-in_err-in_circle-clause-cosine c = search (rules, no_angle)

pub returns-clause-is : goal.returns-clause-is
returns-clause-is c = search (rules, sides_are)

pub returns-clause-sine : goal.returns-clause-sine
returns-clause-sine c =
    sine_told _ _ _ _ _ _ c.fold.ensures.is (search rules) refl c.both_in-sizes.ensures.sine

pub returns-clause-cosine : goal.returns-clause-cosine
returns-clause-cosine c =
    cosine_told _ _ _ _ _ _ c.fold.ensures.is (search rules) _ refl c.both_in-sizes.ensures.cosine
    c.cosine_negative.ensures
