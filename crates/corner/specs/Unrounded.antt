-- docs/RULES.md, "The three demands": of the third, the traverse that is nowhere rounded, as exact
-- fractions, and the bound on how far a station may stand from it.
use Rattle.std.specs.Prelude.{ℕ, ◌+◌, ◌-◌, ◌*◌, ◌≤◌, ◌<◌, max, ℤ, pos, neg_ℤ, nat_abs, ◌-ℤ◌, ◌*ℤ◌}
use Rattle.minutes.specs.Exact.{unity, exact_sine, exact_cosine}
use Rattle.steps.specs.Course.{Axis, north, east}
use Rattle.desk.specs.Line.{Line, run, run_all, preliminary, closure}
use Rattle.desk.specs.Traverse.{along, long_of, azimuth_of}
use Rattle.desk.specs.Angles.{Balanced}

-- a number of parts, and how many of them make a hundredth of a foot
pub record Fraction : Type 0 where
  pub parts : ℤ
  pub of : ℕ

-- "sines exactly": by the series of the rules, the cosine's for latitudes
unfoldable pub exact_along : Axis → ℕ → ℤ
exact_along north azimuth = exact_cosine azimuth
exact_along east azimuth = exact_sine azimuth

-- a distance in thousandths by a sine over `unity`: parts of which ten times `unity` make a
-- hundredth
unfoldable pub fine : ℕ
fine = 10 * unity

unfoldable pub exact_move : Axis → ℕ → ℕ → ℤ
exact_move axis distance azimuth = neg_ℤ (exact_along axis azimuth *ℤ pos distance)

-- "take the balanced azimuths and reduced distances as they are": a coordinate of the traverse in
-- those parts
abbrev pub exact_line : Axis → Balanced → Line
exact_line axis b =
    record {
      from = pos fine *ℤ pos (along axis b.from);
      to = pos fine *ℤ pos (along axis b.to);
      legs = b.legs;
      move = λ (k : ℕ). exact_move axis (long_of b k) (azimuth_of b k);
      long = long_of b;
    }

-- "balance by the same compass rule and round nothing after": preliminary less closure x S_k / S,
-- as parts of which S make one of the line's
unfoldable pub unrounded : Line → ℕ → ℤ
unrounded l k = pos (run_all l) *ℤ preliminary l k -ℤ closure l *ℤ pos (run l.long k)

abbrev pub unrounded_at : Axis → Balanced → ℕ → Fraction
unrounded_at axis b k =
    record { parts = unrounded (exact_line axis b) k; of = fine * run (long_of b) b.legs }

-- ---- z and a fraction differ by at most p / 100 hundredths of a foot
pub record StandsWithin (p : ℕ) (z : ℤ) (x : Fraction) : Type 0 where
  pub meant : 0 < x.of
  pub near : 100 * nat_abs (pos x.of *ℤ z -ℤ x.parts) ≤ p * x.of

-- "the side of the station with more legs (those before it, or those after it)"
abbrev pub longer_side : ℕ → ℕ → ℕ
longer_side legs k = max k (legs - k)

-- "at most 0.55 hundredths for each leg" there "plus half a hundredth"
abbrev pub per_leg : ℕ
per_leg = 55

abbrev pub half : ℕ
half = 50

abbrev pub bound : ℕ → ℕ → ℕ
bound legs k = per_leg * longer_side legs k + half
