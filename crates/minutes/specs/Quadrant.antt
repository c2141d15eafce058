-- docs/RULES.md, "Units and nearest" and "Sines": the circle and its parts; how the other angles
-- fold into the first quadrant, for exact sines and for those of a table alike; and the cosine.
-- Angles are in tenths of a second. src/quadrant.rt has the same names of the circle and its parts.
use Rattle.std.specs.Prelude.{Bool, cond, ℕ, ◌+◌, ◌-◌, ◌%◌, leb, ltb, ℤ, neg_ℤ}

-- "angles in tenths of a second (circle 12,960,000)": 360 degrees
abbrev pub circle : ℕ
circle = 12960000

-- 180 degrees, half a circle
abbrev pub half_circle : ℕ
half_circle = 6480000

-- 90 degrees, where the first quadrant ends
abbrev pub quarter_circle : ℕ
quarter_circle = 3240000

-- 270 degrees, where the third quadrant ends
abbrev pub three_quarters : ℕ
three_quarters = 9720000

-- a minute of the circle has 60 seconds, so 600 tenths
abbrev pub tenths_in_minute : ℕ
tenths_in_minute = 600

-- the angle of the first quadrant whose sine has the same size
unfoldable pub folded : ℕ → ℕ
folded a =
    cond (leb a quarter_circle) a
    (cond (leb a half_circle) (half_circle - a)
    (cond (leb a three_quarters) (a - half_circle) (circle - a)))

-- the sine is negative past 180 degrees
unfoldable pub signed_by : Bool → ℤ → ℤ
signed_by past z = cond past (neg_ℤ z) z

-- a sine known in the first quadrant, carried round the circle
unfoldable pub around : (ℕ → ℤ) → ℕ → ℤ
around quarter a = signed_by (ltb half_circle a) (quarter (folded a))

-- "the cosine is the sine of the angle plus 90 degrees"
abbrev pub quarter_ahead : ℕ → ℕ
quarter_ahead a = (a + quarter_circle) % circle
