-- docs/RULES.md, "Azimuths and legs": azimuths run clockwise from south, in tenths of a second,
-- modulo the circle.
use Rattle.std.specs.Prelude.{◌≡◌, Bool, cond, ◌&&◌, ℕ, ◌+◌, ◌-◌, ◌*◌, ◌%◌, ◌<◌, leb, ltb, ℤ, pos}
use Rattle.std.specs.Prelude.{negsuc, neg_ℤ, nat_abs, ◌+ℤ◌, ◌-ℤ◌, ◌*ℤ◌}
use Rattle.whole.specs.Order.{◌≤ᶻ◌, ◌<ᶻ◌}
use Rattle.answer.specs.Told.{ToldStep, in_range, inside, passes}
use Rattle.answer.specs.Limit.{most_legs}
use Rattle.minutes.specs.Quadrant.{circle}
pub use Rattle.minutes.specs.Quadrant.{half_circle}

-- two amounts that differ by whole circles
abbrev pub SameAngle : ℤ → ℤ → Type 0
SameAngle y z = (turns : ℤ) × (y ≡ z +ℤ turns *ℤ pos circle)

-- "modulo the circle": a is the amount of 0..12,959,999 that z comes to; `turn z` is that amount
pub record Modulo (z : ℤ) (a : ℕ) : Type 0 where
  pub low : a < circle
  pub same : SameAngle z (pos a)

unfoldable pub turn : ℤ → ℕ
turn (pos n) = n % circle
turn (negsuc n) = circle - 1 - n % circle

-- "Leg 1: azimuth to the mark plus its angle right"
abbrev pub from_mark : ℕ → ℕ → ℕ
from_mark mark angle = (mark + angle) % circle

-- "Each next leg: the azimuth before, plus 180 degrees, plus its angle. The closing azimuth
-- likewise with the closing angle"
abbrev pub onward : ℕ → ℕ → ℕ
onward before angle = (before + half_circle + angle) % circle

-- "Misclosure W = carried less given, as the amount above minus half a circle and at most half a
-- circle"
pub record Misclosure (carried given : ℕ) (w : ℤ) : Type 0 where
  pub same : SameAngle w (pos carried -ℤ pos given)
  pub above : neg_ℤ (pos half_circle) <ᶻ w
  pub most : w ≤ᶻ pos half_circle

-- the amount that this names: what is left modulo the circle, less a circle where that is more than
-- half
abbrev pub near_half : ℕ → ℤ
near_half d = cond (leb d half_circle) (pos d) (neg_ℤ (pos (circle - d)))

unfoldable pub misclosure : ℕ → ℕ → ℤ
misclosure carried given = near_half (turn (pos carried -ℤ pos given))

-- "100 x (n+1)": the tenths that each of the n+1 angles may be off
abbrev pub most_per_angle : ℕ
most_per_angle = 100

-- "Refused (8) exactly when its size exceeds 100 x (n+1)"
unfoldable pub closes_angles : ℤ → ℕ → Bool
closes_angles w n = leb (nat_abs w) (most_per_angle * (n + 1))

-- "the carried one less that share, modulo the circle"
unfoldable pub balanced : ℕ → ℤ → ℕ
balanced azimuth share = turn (pos azimuth -ℤ share)

-- ---- the steps: "two azimuths or angles of 0..12,959,999", "n of 1..64 and W of size up to
-- 6,480,000", "an azimuth of 0..12,959,999 and a share of size up to 6,480,000"
abbrev pub of_angles : ℕ → ℕ → ℤ → ToldStep
of_angles a b z = in_range (ltb a circle && ltb b circle) z

abbrev pub from_mark_step : ℕ → ℕ → ToldStep
from_mark_step mark angle = of_angles mark angle (pos (from_mark mark angle))

abbrev pub onward_step : ℕ → ℕ → ToldStep
onward_step before angle = of_angles before angle (pos (onward before angle))

abbrev pub misclosure_step : ℕ → ℕ → ToldStep
misclosure_step carried given = of_angles carried given (misclosure carried given)

abbrev pub misclosure_test : ℤ → ℕ → ToldStep
misclosure_test w n =
    in_range (leb (nat_abs w) half_circle && inside 1 most_legs n) (passes (closes_angles w n))

abbrev pub balanced_step : ℕ → ℤ → ToldStep
balanced_step azimuth share =
    in_range (ltb azimuth circle && leb (nat_abs share) half_circle) (pos (balanced azimuth share))
