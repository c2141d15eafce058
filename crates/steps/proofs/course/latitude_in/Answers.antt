-- `latitude_in` meets its contract: the cosine is what counts along the axis north.
use Rattle.std.proofs.Common.{rules}
use Rattle.std.proofs.lemmas.Result.{err_from_is_err_and}
use Rattle.sines.proofs.Own.{lent_entries}
use Rattle.steps.specs.Course.{sine_along, north}
use Rattle.steps.proofs.Moving.{too_long, no_sine, small, sine_told}
use Rattle.steps.proofs.course.latitude_in.Goals as goal

pub returns-in_err-at_most : goal.returns-in_err-at_most
returns-in_err-at_most c = search (rules, too_long)

pub returns-in_err-cosine : goal.returns-in_err-cosine
unfolding sine_along
returns-in_err-cosine c =
    let p = err_from_is_err_and c.from_residual-in_err-cosine.result
    c.from_residual-in_err-cosine.ensures.1 in
    rw p.1 (no_sine _ north _ _ c.cosine_in.ensures.is _ _ _ c.in_err-cosine.was)

pub moved-requires-clause-size_le_nine_decimals : goal.moved-requires-clause-size_le_nine_decimals
unfolding sine_along
moved-requires-clause-size_le_nine_decimals c =
    let sine = c.in_ok-cosine.cosine in
    small _ north _ _ c.cosine_in.ensures.is sine (search rules) (lent_entries _)

pub returns : goal.returns
unfolding sine_along
returns c =
    let sine = c.in_ok-cosine.cosine in
    sine_told _ north _ _ c.cosine_in.ensures.is sine (search rules) _ _ (search rules)
    c.moved.ensures
