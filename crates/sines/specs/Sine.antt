-- docs/RULES.md, "Sines": the interpolation between the entries of the table, and what the steps
-- answer.
use Rattle.std.specs.Prelude.{cond, List, Result, Ok, Err, ℕ, ◌+◌, ◌/◌, ◌%◌, min, leb, ltb, get_or}
use Rattle.std.specs.Prelude.{ℤ, pos, nat_abs}
use Rattle.std.specs.Prelude.{◌+ℤ◌, ◌-ℤ◌, ◌*ℤ◌}
use Rattle.whole.specs.Nearest.{nearest}
use Rattle.answer.specs.Told.{ToldStep, told, in_range}
use Rattle.answer.specs.declared.OutOfRange.{OutOfRange}
use Rattle.minutes.specs.Entry.{entry, last_minute}
use Rattle.minutes.specs.Exact.{nine_decimals}
use Rattle.minutes.specs.Quadrant.{circle, half_circle, tenths_in_minute}
use Rattle.minutes.specs.Quadrant.{signed_by, around, quarter_ahead}
use Rattle.sines.specs.declared.Sides.{Sides}

-- "entry m plus the nearest whole number to (entry m+1 less entry m) x r / 600"
unfoldable pub between : ℤ → ℤ → ℕ → ℤ
between e f r = e +ℤ nearest ((f -ℤ e) *ℤ pos r) tenths_in_minute

-- the sine of an angle of the first quadrant by given entries; at a whole minute, r = 0, it is the
-- entry, whatever stands after it
unfoldable pub quarter_by : (ℕ → ℤ) → ℕ → ℤ
quarter_by e a =
    between (e (a / tenths_in_minute)) (e (a / tenths_in_minute + 1)) (a % tenths_in_minute)

-- the sine and the cosine by given entries: by `entry` they are those of the rules
unfoldable pub sine_by : (ℕ → ℤ) → ℕ → ℤ
sine_by e a = around (quarter_by e) a

abbrev pub cosine_by : (ℕ → ℤ) → ℕ → ℤ
cosine_by e a = sine_by e (quarter_ahead a)

-- the entries of any table that is lent: one above 1 counts as 1, so that no sine is above 1. Past
-- 90 degrees a table has none, and no sine takes one
unfoldable pub entry_in : List ℕ → ℕ → ℤ
entry_in t m = cond (leb m last_minute) (pos (min (get_or t m 0) nine_decimals)) (entry m)

-- "An angle of 12,960,000 or more is refused (4)"
abbrev pub of_angle : ℕ → ℤ → ToldStep
of_angle a z = in_range (ltb a circle) z

-- the sine and the cosine of an angle as sizes, and whether each is negative: the sign goes by the
-- half of the circle, also where the size is 0
unfoldable pub sides_by : (ℕ → ℤ) → ℕ → Sides
sides_by e a =
    record {
      sine = record { size = nat_abs (sine_by e a); negative = ltb half_circle a };
      cosine =
          record {
            size = nat_abs (cosine_by e a);
            negative = ltb half_circle (quarter_ahead a);
          };
    }

-- both, or the refusal
abbrev pub turned_by : (ℕ → ℤ) → ℕ → Result Sides OutOfRange
turned_by e a = cond (ltb a circle) (Ok (sides_by e a)) (Err (record {}))

-- what is told of the sine, and of the cosine: the size with its sign
abbrev pub told_sine : Result Sides OutOfRange → ToldStep
told_sine = told (λ s. signed_by s.sine.negative (pos s.sine.size))

abbrev pub told_cosine : Result Sides OutOfRange → ToldStep
told_cosine = told (λ s. signed_by s.cosine.negative (pos s.cosine.size))

-- "Every sine is within 20 units of the ninth decimal of the exact one"
abbrev pub units : ℕ
units = 20
