-- The sine and the cosine of one angle together, as sizes and signs: that the code's are those of
-- the definition, and what a caller has of them.
use mathlib.Core.Path.{◌≡◌, refl, sym, ◌∙◌}
use mathlib.Core.Bool.{Bool}
use Prim.Native.Nat.{ℕ, ◌+◌, ◌-◌, ◌≤◌, ◌<◌}
use native.Mathlib.Decide.{dec_lt}
use native.Mathlib.Nat.{mod-lt}
use native.Mathlib.Omega.{arith}
use borrow.Author.Tests.{lt-ltb, le-ltb}
use lib.Dec.{ltb}
use lib.IntN.{ℤ, pos, nat_abs}
use Rattle.std.proofs.Common.{Ok, Err}
use Rattle.answer.specs.declared.OutOfRange.{OutOfRange}
use Rattle.answer.specs.Told.{told}
use Rattle.answer.proofs.Telling.{tells, refuses}
use Rattle.minutes.specs.Quadrant.{circle, folded, signed_by, quarter_ahead}
use Rattle.sines.specs.Sine.{quarter_by, sine_by, cosine_by, of_angle, sides_by, turned_by}
use Rattle.sines.specs.declared.Sides.{Sides}
use Rattle.sines.proofs.Own.{Entries, quarter_size, sine_size}
use Rattle.sines.proofs.Quadrants.{folded_most, folded_ahead, sine_is, size_is}

module _ (e : ℕ → ℤ) (a : ℕ) where
  pub no_sides : (r : OutOfRange) → 12960000 ≤ a → Err r ≡ turned_by e a
  no_sides r h = rw (le-ltb a 12960000 h)

  pub no_circle : (r : OutOfRange) → Err r ≡ turned_by e a → circle ≤ a
  no_circle r g = elim (dec_lt a circle) [
    | yes h ↦ absurd (let z : ◌≡◌ {A = ℕ} 0 1 = cc (rw (lt-ltb a circle h) at g) in
        omega arith)
    | no h ↦ omega arith
  ]

  pub sides_are : (x m n : ℕ) (back : Bool) → x ≡ folded a → pos m ≡ quarter_by e x
      → pos n ≡ quarter_by e (3240000 - x) → back ≡ ltb 6480000 (quarter_ahead a) → a < 12960000
      → Ok (record {
        sine = record { size = m; negative = ltb 6480000 a };
        cosine = record { size = n; negative = back };
      }) ≡ turned_by e a
  unfolding sides_by
  sides_are x m n back f g k b h =
      rw (
        lt-ltb a 12960000 h,
        ← size_is e a x m f g,
        ← size_is e (quarter_ahead a) (3240000 - x) n (rw f (sym (folded_ahead a h))) k,
        b,
      )

-- ---- and what is told of each, where f tells the number of an answer
module _ {A : Type 0} (f : A → ℤ) (a : ℕ) where
  pub no_angle : (r : OutOfRange) (z : ℤ) → 12960000 ≤ a → told f (Err r) ≡ of_angle a z
  no_angle r z h = refuses f r _ z (le-ltb a 12960000 h)

  module _ (e : ℕ → ℤ) (v : A) (x n : ℕ) (d : x ≡ folded a) (h : a < 12960000) where
    pub sine_told : f v ≡ signed_by (ltb 6480000 a) (pos n) → pos n ≡ quarter_by e x
        → told f (Ok v) ≡ of_angle a (sine_by e a)
    sine_told is g = tells f _ v _ (lt-ltb a 12960000 h) (is ∙ sine_is e a x n d g _ refl)

    pub cosine_told : (back : Bool) → f v ≡ signed_by back (pos n)
        → pos n ≡ quarter_by e (3240000 - x)
        → back ≡ ltb 6480000 (quarter_ahead a)
        → told f (Ok v) ≡ of_angle a (cosine_by e a)
    cosine_told back is g b =
        tells f _ v _ (lt-ltb a 12960000 h)
        (is ∙ sine_is e (quarter_ahead a) (3240000 - x) n
        (rw d (sym (folded_ahead a h))) g back b)

-- the size with the sign of its half of the circle is the sine again, since no entry is negative
signed_again : (e : ℕ → ℤ) → Entries e → (a : ℕ) → a < circle
    → signed_by (ltb 6480000 a) (pos (nat_abs (sine_by e a))) ≡ sine_by e a
signed_again e entries a h =
    let q = quarter_size e entries (folded a) (folded_most a h) in
    rw (← size_is e a (folded a) q.0 refl (sym q.1))
    (sine_is e a (folded a) q.0 refl (sym q.1) (ltb 6480000 a) refl)

-- ---- for a caller who has them: no sine or cosine is above 1, and with its sign each is that of
-- the angle
module _ (e : ℕ → ℤ) (entries : Entries e) (a : ℕ) (s : Sides) (g : Ok s ≡ turned_by e a) where
  pub in_circle : a < circle
  in_circle = elim (dec_lt a circle) [
    | yes h ↦ h
    | no h ↦
        absurd (let z : ◌≡◌ {A = ℕ} 0 1 = cc (g ∙ sym (no_sides e a (record {}) (omega arith))) in
        omega arith)
  ]

  these : s ≡ sides_by e a
  these = cc (rw (lt-ltb a circle in_circle) at g)

  ahead_circle : quarter_ahead a < circle
  ahead_circle = mod-lt (a + 3240000) (omega arith)

  pub sine_most : s.sine.size ≤ 1000000000
  unfolding sides_by
  sine_most = rw these (sine_size e entries a in_circle)

  pub cosine_most : s.cosine.size ≤ 1000000000
  unfolding sides_by
  cosine_most = rw these (sine_size e entries (quarter_ahead a) ahead_circle)

  pub sine_signed : signed_by s.sine.negative (pos s.sine.size) ≡ sine_by e a
  unfolding sides_by
  sine_signed = rw these (signed_again e entries a in_circle)

  pub cosine_signed : signed_by s.cosine.negative (pos s.cosine.size) ≡ cosine_by e a
  unfolding sides_by
  cosine_signed = rw these (signed_again e entries (quarter_ahead a) ahead_circle)
