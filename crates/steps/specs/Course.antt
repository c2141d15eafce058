-- docs/RULES.md, "Azimuths and legs": latitude and departure, how far a leg moves north and east,
-- in hundredths of a foot.
use Rattle.std.specs.Prelude.{◌&&◌, Result, ℕ, leb, ltb, ℤ, pos, neg_ℤ, ◌*ℤ◌}
use Rattle.whole.specs.Nearest.{nearest}
use Rattle.answer.specs.Told.{ToldStep, told, in_range}
use Rattle.answer.specs.declared.OutOfRange.{OutOfRange}
use Rattle.minutes.specs.Quadrant.{circle}
use Rattle.sines.specs.Sine.{sine_by, cosine_by}
use Rattle.steps.specs.declared.course.Moves.{Moves}

-- northing and easting differ in the sine that counts
pub data Axis : Type 0 where
  north east : Axis

-- the units of the exact product in a hundredth of a foot: thousandths by nine decimals, 10 ^ 10
abbrev pub per_hundredth : ℕ
per_hundredth = 10000000000

-- "Latitude = minus grid distance x cosine; departure = minus grid distance x sine; each the
-- nearest hundredth, rounded once from the exact product": thousandths by nine decimals, over
-- `per_hundredth`
unfoldable pub move : ℕ → ℤ → ℤ
move distance sine = nearest (neg_ℤ (sine *ℤ pos distance)) per_hundredth

-- "with the table's sine": the cosine for latitudes, the sine for departures, by the entries of a
-- table
unfoldable pub sine_along : (ℕ → ℤ) → Axis → ℕ → ℤ
sine_along e north azimuth = cosine_by e azimuth
sine_along e east azimuth = sine_by e azimuth

abbrev pub course : (ℕ → ℤ) → Axis → ℕ → ℕ → ℤ
course e axis distance azimuth = move distance (sine_along e axis azimuth)

-- "a grid distance of 0..20,100,000", in thousandths of a foot
abbrev pub most_grid : ℕ
most_grid = 20100000

-- ---- the steps: "a grid distance of 0..20,100,000 and an azimuth or angle of 0..12,959,999"; by
-- the entries of the desk's own table, or of a lent one
abbrev pub of_leg : ℕ → ℕ → ℤ → ToldStep
of_leg distance azimuth z = in_range (leb distance most_grid && ltb azimuth circle) z

abbrev pub course_step : (ℕ → ℤ) → Axis → ℕ → ℕ → ToldStep
course_step e axis distance azimuth = of_leg distance azimuth (course e axis distance azimuth)

-- ---- both moves of a leg at once: the one along an axis, and what is told of it
abbrev pub move_along : Axis → Moves → ℤ
move_along north m = m.north.v
move_along east m = m.east.v

abbrev pub told_move : Axis → Result Moves OutOfRange → ToldStep
told_move axis = told (move_along axis)
