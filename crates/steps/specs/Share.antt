-- docs/RULES.md, "Azimuths and legs" and "Closure and compass rule": the one share rule, for
-- seconds and for feet.
use Rattle.std.specs.Prelude.{◌&&◌, ℕ, ◌+◌, leb, ℤ, pos, nat_abs, ◌*ℤ◌}
use Rattle.whole.specs.Nearest.{nearest}
use Rattle.answer.specs.Limit.{most_legs}
use Rattle.answer.specs.Told.{ToldStep, in_range, inside}
use Rattle.minutes.specs.Quadrant.{half_circle}
use Rattle.steps.specs.Closure.{most_closure, most_sum}

-- "nearest to W x j / (n+1)", "nearest to closure x S_k / S": the share of a total at a part of a
-- whole
unfoldable pub share : ℤ → ℕ → ℕ → ℤ
share total part whole = nearest (total *ℤ pos part) whole

-- ---- the steps: "a closure of size up to 26,000, a whole of 1..1,300,000,000 and a part of
-- 0..whole"; "n of 1..64, W of size up to 6,480,000 and a j of 0..n+1"
abbrev pub share_step : ℤ → ℕ → ℕ → ToldStep
share_step closure part whole =
    in_range (leb (nat_abs closure) most_closure && inside 1 most_sum whole && leb part whole)
    (share closure part whole)

abbrev pub angle_share_step : ℤ → ℕ → ℕ → ToldStep
angle_share_step w j n =
    in_range (leb (nat_abs w) half_circle && inside 1 most_legs n && leb j (n + 1))
    (share w j (n + 1))
