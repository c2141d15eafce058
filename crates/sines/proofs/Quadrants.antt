-- The four quadrants: where each angle folds to, and what a sine carried round the circle is in
-- each half.
use mathlib.Core.Path.{◌≡◌, refl, sym, ◌∙◌}
use mathlib.Core.Bool.{Bool, true, false}
use Prim.Native.Nat.{ℕ, ◌-◌, ◌≤◌, ◌<◌}
use native.Mathlib.Decide.{dec_le, dec_lt}
use native.Mathlib.Omega.{arith}
use borrow.Author.Tests.{le-leb, lt-leb, lt-ltb, le-ltb}
use lib.Dec.{ltb}
use lib.IntN.{ℤ, pos, neg_ℤ, nat_abs}
use Rattle.whole.proofs.Laws.{abs_neg}
use Rattle.minutes.specs.Quadrant.{circle, folded, signed_by, around, quarter_ahead}
use Rattle.sines.specs.Sine.{quarter_by, sine_by}

-- ---- folding
pub first : (a : ℕ) → a ≤ 3240000 → a ≡ folded a
unfolding folded
first a h = rw (le-leb a 3240000 h)

pub second : (a : ℕ) → 3240000 < a → a ≤ 6480000 → 6480000 - a ≡ folded a
unfolding folded
second a h k = rw (lt-leb a 3240000 h, le-leb a 6480000 k)

pub third : (a : ℕ) → 6480000 < a → a ≤ 9720000 → a - 6480000 ≡ folded a
unfolding folded
third a h k = rw (lt-leb a 3240000 (omega arith), lt-leb a 6480000 h, le-leb a 9720000 k)

pub fourth : (a : ℕ) → 9720000 < a → 12960000 - a ≡ folded a
unfolding folded
fourth a h = rw (lt-leb a 3240000 (omega arith), lt-leb a 6480000 (omega arith), lt-leb a 9720000 h)

pub folded_most : (a : ℕ) → a < circle → folded a ≤ 3240000
folded_most a h =
    elim (dec_le a 3240000) [
      | yes i ↦ rw (← first a i) i
      | no i ↦ elim (dec_le a 6480000) [
        | yes j ↦ rw (← second a (omega arith) j) (omega arith)
        | no j ↦ elim (dec_le a 9720000) [
          | yes k ↦ rw (← third a (omega arith) k) (omega arith)
          | no k ↦ rw (← fourth a (omega arith)) (omega arith)
        ]
      ]
    ]

-- ---- round the circle
turned_size : (past : Bool) (n : ℕ) → nat_abs (signed_by past (pos n)) ≡ n
unfolding signed_by
turned_size true n = abs_neg (pos n)
turned_size false n = refl

pub around_up : (f : ℕ → ℤ) (a : ℕ) → a ≤ 6480000 → around f a ≡ f (folded a)
unfolding around signed_by
around_up f a h = rw (le-ltb 6480000 a h)

pub around_down : (f : ℕ → ℤ) (a : ℕ) → 6480000 < a → around f a ≡ neg_ℤ (f (folded a))
unfolding around signed_by
around_down f a h = rw (lt-ltb 6480000 a h)

-- ---- the cosine: its angle folds to what is left to 90 degrees
module _ (a : ℕ) (h : a < circle) where
  pub folded_ahead : folded (quarter_ahead a) ≡ 3240000 - folded a
  folded_ahead =
      elim (dec_le a 3240000) [
        | yes i ↦ rw (← first a i)
            (elim (dec_le a 0) [
              | yes z ↦ in_first (omega arith) (omega arith)
              | no z ↦
                  sym (second (quarter_ahead a) (omega arith) (omega arith)) ∙ (omega arith)
            ])
        | no i ↦ elim (dec_le a 6480000) [
          | yes j ↦ rw (← second a (omega arith) j)
              (sym (third (quarter_ahead a) (omega arith) (omega arith)) ∙ (omega arith))
          | no j ↦ elim (dec_le a 9720000) [
            | yes k ↦ rw (← third a (omega arith) k)
                (elim (dec_le 9720000 a) [
                  | yes z ↦ in_first (omega arith) (omega arith)
                  | no z ↦
                      sym (fourth (quarter_ahead a) (omega arith)) ∙ (omega arith)
                ])
            | no k ↦ rw (← fourth a (omega arith)) (in_first (omega arith) (omega arith))
          ]
        ]
      ]
    where
      in_first : {x : ℕ} → quarter_ahead a ≤ 3240000 → quarter_ahead a ≡ x
          → folded (quarter_ahead a) ≡ x
      in_first i e = sym (first (quarter_ahead a) i) ∙ e

  -- and it is negative between 90 degrees and 270
  pub ahead_up : a ≤ 3240000 → false ≡ ltb 6480000 (quarter_ahead a)
  ahead_up i = sym (le-ltb 6480000 (quarter_ahead a) (omega arith))

  pub ahead_down : 3240000 < a → ltb a 9720000 ≡ ltb 6480000 (quarter_ahead a)
  ahead_down i =
      elim (dec_lt a 9720000) [
        | yes j ↦ rw (lt-ltb a 9720000 j, lt-ltb 6480000 (quarter_ahead a) (omega arith))
        | no j ↦ rw (le-ltb a 9720000 (omega arith), le-ltb 6480000 (quarter_ahead a) (omega arith))
      ]

-- ---- by any entries
module _ (e : ℕ → ℤ) where
  -- a sine by its size and its half of the circle
  module _ (a x n : ℕ) (f : x ≡ folded a) (g : pos n ≡ quarter_by e x) where
    pub sine_is : (past : Bool) → past ≡ ltb 6480000 a → signed_by past (pos n) ≡ sine_by e a
    unfolding sine_by around
    sine_is past p = rw (p, g, f)

    pub size_is : n ≡ nat_abs (sine_by e a)
    size_is = sym (rw (← sine_is (ltb 6480000 a) refl) (turned_size (ltb 6480000 a) n))
