-- Azimuths along any line: each is within the circle, being a remainder by it, and a list that was
-- filled with the carried azimuths is, once it is balanced, filled with the balanced ones.
use Prim.Native.Nat.{ℕ, zero, suc, ◌+◌, ◌≤◌, ◌<◌}
use native.Mathlib.Omega.{arith}
use native.Mathlib.Nat.{mod-lt}
use native.Mathlib.Numerals.{add-one}
use mathlib.Core.Path.{◌≡◌}
use mathlib.Core.List.{List}
use lib.ListN.{length, get_or}
use lib.IntN.{ℤ}
use Rattle.minutes.specs.Quadrant.{circle}
use Rattle.steps.specs.Azimuth.{onward, balanced}
use Rattle.steps.proofs.Turning.{turn_is}
use Rattle.whole.specs.Filled.{filled}
use Rattle.whole.proofs.Filling.{filled_length, filled_at, filled_over}
use Rattle.desk.specs.Inside.{no_leg, leg_by, AllTurned, balanced_leg, balanced_in}
use Rattle.desk.specs.declared.Leg.{Leg}
use Rattle.desk.specs.Turns.{Turns, carried, balanced_at}

pub balanced_most : (azimuth : ℕ) (s : ℤ) → balanced azimuth s < circle
unfolding balanced
balanced_most azimuth s = (turn_is _).low

module _ (t : Turns) where
  -- ---- from one leg to the next
  pub carried_on : (k : ℕ)
      → onward (carried t k) (get_or t.angles (k + t.ahead) 0) ≡ carried t (k + 1)
  unfolding carried
  carried_on k = rw (add-one k)

  -- ---- within the circle
  pub carried_turned : t.first < circle → (k : ℕ) → carried t k < circle
  unfolding carried
  carried_turned h zero = h
  carried_turned h (suc k) = mod-lt _ (omega arith)

  pub balanced_at_turned : (w : ℤ) (k : ℕ) → balanced_at t w k < circle
  unfolding balanced_at
  balanced_at_turned w k = balanced_most _ _

  -- ---- n legs in a list, whose distances are d
  module _ (d : ℕ → ℕ) (n : ℕ) (l : List Leg) (room : n ≤ length l) where
    pub filled_turned : t.first < circle → AllTurned n (filled (leg_by (carried t) d) n l)
    filled_turned h =
        record {
          room = omega (arith, filled_length (leg_by (carried t) d) l n);
          each =
              λ k i.
              rw (filled_at (leg_by (carried t) d) l no_leg n k room i)
              (carried_turned h k);
        }

    pub filled_balanced : (w : ℤ)
        → balanced_in w t.ahead t.shared n (filled (leg_by (carried t) d) n l)
        ≡ filled (leg_by (balanced_at t w) d) n l
    unfolding balanced_at
    filled_balanced w =
        let carried_legs = filled (leg_by (carried t) d) n l in
        filled_over no_leg (leg_by (carried t) d) (balanced_leg w t.ahead t.shared carried_legs)
        (leg_by (balanced_at t w) d) l n room
        (λ k i. rw (filled_at (leg_by (carried t) d) l no_leg n k room i))

  pub filled_balanced_at : (n : ℕ) (l : List ℕ) → n ≤ length l → (w : ℤ) (k : ℕ) → k < n
      → get_or (filled (balanced_at t w) n l) k 0 ≡ balanced_at t w k
  filled_balanced_at n l room w k h = filled_at (balanced_at t w) l 0 n k room h
