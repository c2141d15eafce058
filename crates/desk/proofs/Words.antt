-- The lent words of an accepted traverse: word 2k is the adjusted northing of station k and the
-- next one its easting, whatever was stored before or after; so the first and the last station are
-- the fixed points to the hundredth, and no later word has changed.
use Prim.Native.Nat.{ℕ, zero, suc, ◌+◌, ◌*◌, ◌≤◌, ◌<◌}
use native.Mathlib.Omega.{arith}
use native.Mathlib.Decide.{ℕ_discrete}
use mathlib.Core.Path.{◌≡◌, refl, ◌∙◌}
use mathlib.Core.List.{List}
use lib.ListN.{length, get_or}
use lib.IntN.{ℤ, pos}
use Rattle.steps.specs.Course.{Axis, north, east}
use Rattle.desk.specs.Line.{adjusted}
use Rattle.desk.specs.Traverse.{along, line, word_index, with_stations}
use Rattle.desk.specs.Inside.{Sound}
use Rattle.desk.specs.Angles.{Balanced}
use Rattle.desk.proofs.Pairs.{apart, own, before, later}
use Rattle.desk.proofs.Compass.{first_fixed, last_fixed}
use Rattle.desk.proofs.Settling.{far_run, placed_length}

module _ (e : ℕ → ℤ) (b : Balanced) (l : List ℤ) where
  -- after the stations nothing changes
  pub words_later : (n i : ℕ) → 2 * n ≤ i
      → get_or (with_stations e b n l) i (pos 0) ≡ get_or l i (pos 0)
  unfolding with_stations
  words_later zero i h = refl
  words_later (suc n) i h =
      apart (with_stations e b n l) n _ _ i (λ f. omega arith) (λ f. omega arith) ∙ words_later n i
      (omega arith)

  -- the word of each station
  pub word_at_lem : (axis : Axis) (n k : ℕ) → k < n → 2 * n ≤ length l
      → get_or (with_stations e b n l) (word_index axis k) (pos 0) ≡ adjusted (line e axis b) k
  unfolding with_stations
  word_at_lem axis zero k h r = absurd (omega arith)
  word_at_lem axis (suc n) k h r =
      elim (ℕ_discrete k n) [
        | yes i ↦ rw i (station axis)
        | no i ↦ apart (with_stations e b n l) n _ _ (word_index axis k) (before n k i axis)
            (later n k i axis) ∙ word_at_lem axis n k (omega arith) (omega arith)
      ]
    where
      station : (a : Axis)
          → get_or (with_stations e b (suc n) l) (word_index a n) (pos 0) ≡ adjusted (line e a b) n
      station north = own (with_stations e b n l) n _ _ north (omega (arith, placed_length e b n l))
      station east = own (with_stations e b n l) n _ _ east (omega (arith, placed_length e b n l))

  module _ (sound : Sound b) (room : 130 ≤ length l) where
    -- the first and the last station are exactly the fixed ones
    pub first_word : (axis : Axis)
        → get_or (with_stations e b (b.legs + 1) l) (word_index axis 0) (pos 0) ≡ pos
        (along axis b.from)
    first_word axis = word_at_lem axis (b.legs + 1) 0 (omega arith) (omega (arith, sound.few))
        ∙ first_fixed (line e axis b) (far_run b sound)

    pub last_word : (axis : Axis)
        → get_or (with_stations e b (b.legs + 1) l) (word_index axis b.legs) (pos 0) ≡ pos
        (along axis b.to)
    last_word axis = word_at_lem axis (b.legs + 1) b.legs (omega arith) (omega (arith, sound.few))
        ∙ last_fixed (line e axis b) (far_run b sound)
