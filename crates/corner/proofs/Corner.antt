-- Demand 3, of what `traverse` writes: where the answer's number is 0, every word of a station
-- stands within 0.55 hundredths for each leg on the station's longer side, and half a hundredth, of
-- the unrounded place; and at both ends it is the fixed one.
use Prim.Native.Nat.{ℕ, ◌-◌, ◌*◌, ◌≤◌, ◌<◌}
use native.Mathlib.Omega.{arith}
use native.Mathlib.Nat.{le-max_left, le-max_right}
use mathlib.Core.Path.{◌≡◌, sym, ◌∙◌, ap}
use mathlib.Core.List.{List}
use lib.ListN.{length, get_or}
use lib.IntN.{ℤ, pos, nat_abs, ◌-ℤ◌, ◌*ℤ◌}
use Rattle.minutes.specs.Entry.{entry}
use Rattle.steps.specs.Course.{Axis}
use Rattle.tape.specs.Fields.{fields_of}
use Rattle.steps.proofs.Laws.{product_most}
use Rattle.std.specs.Prelude.{Result}
use Rattle.answer.specs.declared.Refused.{Refused}
use Rattle.desk.specs.declared.Figures.{Figures}
use Rattle.desk.specs.Angles.{Balanced, balanced_traverse}
use Rattle.desk.specs.Answer.{ToldTraverse, told_traverse, traversed, traversed_words}
use Rattle.desk.specs.Inside.{Sound}
use Rattle.desk.specs.Line.{run, adjusted}
use Rattle.desk.specs.Traverse.{along, long_of, azimuth_of, line, word_index}
use Rattle.desk.proofs.Accepted.{accepted, accepted_sound, station, first_station, last_station}
use Rattle.desk.proofs.Running.{grid_most}
use Rattle.desk.proofs.Settling.{far_run}
use Rattle.corner.specs.Unrounded.{fine, exact_line, unrounded_at, StandsWithin, longer_side}
use Rattle.corner.specs.Unrounded.{per_leg, bound}
use Rattle.corner.proofs.Leg.{fine_positive, leg_near}
use Rattle.corner.proofs.Spread.{stands}

-- ---- a station has no more legs before it, nor after it, than on its longer side
before_it : (legs k : ℕ) → k ≤ longer_side legs k
before_it legs k = le-max_left k (legs - k)

after_it : (legs k : ℕ) → legs - k ≤ longer_side legs k
after_it legs k = le-max_right k (legs - k)

-- ---- a balanced traverse whose fields are in range
module _ (b : Balanced) (sound : Sound b) (axis : Axis) (k : ℕ) (h : k ≤ b.legs) where
  leg_off : (i : ℕ) → i < b.legs
      → 100 * nat_abs ((exact_line axis b).move i -ℤ pos fine *ℤ (line entry axis b).move i) ≤
      per_leg *
      fine
  leg_off i low = let leg = sound.leg i low in
      leg_near axis (long_of b i) (azimuth_of b i) (grid_most _ _ leg.near leg.most)
      leg.turned

  pub station_near : StandsWithin (bound b.legs k) (adjusted (line entry axis b) k)
      (unrounded_at axis b k)
  station_near =
      let m = longer_side b.legs k in
      let s = stands 50 per_leg fine (line entry axis b) (exact_line axis b).move leg_off k m h
      (before_it b.legs k) (after_it b.legs k) (far_run b sound) in
      record {
        meant = omega (
          arith,
          product_most 1 1 fine (run (long_of b) b.legs) fine_positive
              (far_run b sound),
        );
        near = omega (arith, s);
      }

-- ---- x and l are what the promise of `traverse` allows for the tape and the lent words
module _ (tape : List ℕ) (words l : List ℤ) (x : Result Figures Refused)
    (e : told_traverse x ≡ traversed tape (length words)) (f : l ≡ traversed_words tape words)
    (accepts : (told_traverse x).number ≡ 0) where
  abbrev b : Balanced
  b = balanced_traverse (fields_of tape)

  number : (traversed tape (length words)).number ≡ 0
  number = ap (λ (t : ToldTraverse). t.number) (sym e) ∙ accepts

  sound : Sound b
  sound = accepted_sound entry tape (length words) (accepted entry tape (length words) number)

  pub corner : (axis : Axis) (k : ℕ) → k ≤ b.legs
      → StandsWithin (bound b.legs k) (get_or l (word_index axis k) (pos 0)) (unrounded_at axis b k)
  corner axis k h = rw (f, station entry tape words number axis k h) (station_near b sound axis k h)

  pub first_corner : (axis : Axis)
      → get_or l (word_index axis 0) (pos 0) ≡ pos (along axis (fields_of tape).opening.from)
  first_corner axis = rw f (first_station entry tape words number axis)

  pub last_corner : (axis : Axis)
      → get_or l (word_index axis (fields_of tape).line.legs) (pos 0) ≡ pos
      (along axis (fields_of tape).closing.to)
  last_corner axis = rw f (last_station entry tape words number axis)
