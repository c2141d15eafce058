-- `departure_in` meets its contract: the sine is what counts along the axis east.
use Rattle.std.proofs.Common.{rules}
use Rattle.std.proofs.lemmas.Result.{err_from_is_err_and}
use Rattle.sines.proofs.Own.{lent_entries}
use Rattle.steps.specs.Course.{sine_along, east}
use Rattle.steps.proofs.Moving.{too_long, no_sine, small, sine_told}
use Rattle.steps.proofs.course.departure_in.Goals as goal

pub returns-in_err-at_most : goal.returns-in_err-at_most
returns-in_err-at_most c = search (rules, too_long)

pub returns-in_err-sine : goal.returns-in_err-sine
unfolding sine_along
returns-in_err-sine c =
    let p = err_from_is_err_and c.from_residual-in_err-sine.result
    c.from_residual-in_err-sine.ensures.1 in
    rw p.1 (no_sine _ east _ _ c.sine_in.ensures.is _ _ _ c.in_err-sine.was)

pub moved-requires-clause-size_le_nine_decimals : goal.moved-requires-clause-size_le_nine_decimals
unfolding sine_along
moved-requires-clause-size_le_nine_decimals c =
    let sine = c.in_ok-sine.sine in
    small _ east _ _ c.sine_in.ensures.is sine (search rules) (lent_entries _)

pub returns : goal.returns
unfolding sine_along
returns c =
    let sine = c.in_ok-sine.sine in
    sine_told _ east _ _ c.sine_in.ensures.is sine (search rules) _ _ (search rules)
    c.moved.ensures
