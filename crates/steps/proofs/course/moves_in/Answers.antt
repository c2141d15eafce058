-- `moves_in` meets its contract: each move is by the size and the sign of the sine that counts
-- along its axis, and an azimuth without sides is refused.
use Rattle.std.proofs.Common.{rules}
use Rattle.steps.specs.Course.{north, east}
use Rattle.steps.proofs.Moving.{too_long, no_sides, sine_small, cosine_small, side_told}
use Rattle.steps.proofs.course.moves_in.Goals as goal

pub returns-in_err-at_most-clause-is_north : goal.returns-in_err-at_most-clause-is_north
returns-in_err-at_most-clause-is_north c = search (rules, too_long)

pub returns-in_err-at_most-clause-is_east : goal.returns-in_err-at_most-clause-is_east
returns-in_err-at_most-clause-is_east c = search (rules, too_long)

pub returns-in_err-sides-clause-is_north : goal.returns-in_err-sides-clause-is_north
returns-in_err-sides-clause-is_north c = search (rules, no_sides)

pub returns-in_err-sides-clause-is_east : goal.returns-in_err-sides-clause-is_east
returns-in_err-sides-clause-is_east c = search (rules, no_sides)

pub move_by-north-requires-clause-size_le_nine_decimals :
    goal.move_by-north-requires-clause-size_le_nine_decimals
move_by-north-requires-clause-size_le_nine_decimals c = search (rules, cosine_small)

pub move_by-east-requires-clause-size_le_nine_decimals :
    goal.move_by-east-requires-clause-size_le_nine_decimals
move_by-east-requires-clause-size_le_nine_decimals c = search (rules, sine_small)

pub returns-clause-is_north : goal.returns-clause-is_north
returns-clause-is_north c =
    let s = c.in_ok-sides.sides in
    side_told _ _ _ c.sides_in.ensures.is s (search rules) north _ _ (search rules)
    c.move_by-north.ensures

pub returns-clause-is_east : goal.returns-clause-is_east
returns-clause-is_east c =
    let s = c.in_ok-sides.sides in
    side_told _ _ _ c.sides_in.ensures.is s (search rules) east _ _ (search rules)
    c.move_by-east.ensures
