-- docs/RULES.md, "Distances": from a measured distance to a grid distance. Factors are in
-- ten-millionths, distances in thousandths of a foot.
use Rattle.std.specs.Prelude.{◌&&◌, ℕ, ◌*◌, ℤ, pos, neg_ℤ, nat_abs, ◌+ℤ◌}
use Rattle.std.specs.Int.Signed.{le_z}
use Rattle.whole.specs.Nearest.{half_up}
use Rattle.answer.specs.Limit.{least_factor, most_factor, least_distance, most_distance}
use Rattle.answer.specs.Limit.{lowest, highest}
use Rattle.answer.specs.Told.{ToldStep, in_range, inside}

-- "factors in ten-millionths": a factor of 1
abbrev pub unit_factor : ℕ
unit_factor = 10000000

-- "20,906,000 / (20,906,000 + elevation)": the mean radius of the earth in feet
abbrev pub mean_radius : ℕ
mean_radius = 20906000

-- "20,906,000 / (20,906,000 + elevation), nearest ten-millionth"
unfoldable pub sea_level : ℤ → ℕ
sea_level elevation = half_up (mean_radius * unit_factor) (nat_abs (pos mean_radius +ℤ elevation))

-- "The combined factor is the nearest ten-millionth of the product"
unfoldable pub combine : ℕ → ℕ → ℕ
combine sea scale = half_up (sea * scale) unit_factor

-- "distance x combined / 10,000,000, nearest"
unfoldable pub grid : ℕ → ℕ → ℕ
grid distance factor = half_up (distance * factor) unit_factor

-- "a combined factor of 9,980,000..10,020,010": the least
abbrev pub least_combined : ℕ
least_combined = 9980000

-- "a combined factor of 9,980,000..10,020,010": the most
abbrev pub most_combined : ℕ
most_combined = 10020010

-- ---- the steps: "an elevation of -1,000..20,000", "two factors of 9,990,000..10,010,000", "a
-- distance of 1,000..20,000,000 and a combined factor of 9,980,000..10,020,010"
abbrev pub sea_level_step : ℤ → ToldStep
sea_level_step elevation =
    in_range (le_z (neg_ℤ (pos lowest)) elevation && le_z elevation (pos highest))
    (pos (sea_level elevation))

abbrev pub combine_step : ℕ → ℕ → ToldStep
combine_step sea scale =
    in_range (inside least_factor most_factor sea && inside least_factor most_factor scale)
    (pos (combine sea scale))

abbrev pub grid_step : ℕ → ℕ → ToldStep
grid_step distance factor =
    in_range (inside least_distance most_distance distance
    && inside least_combined most_combined factor)
    (pos (grid distance factor))
