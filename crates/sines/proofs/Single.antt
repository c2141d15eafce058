-- Any two outcomes that a promise of this crate allows coincide, for every input.
use mathlib.Core.Path.{◌≡◌, refl, sym, ◌∙◌}
use Prim.Native.Nat.{ℕ, ◌<◌}
use native.Mathlib.Omega.{arith}
use lib.IntN.{ℤ, pos}
use Rattle.std.proofs.Common.{rules, Result, Ok, Err, IsOk, ◌↔◌}
use Rattle.whole.specs.declared.Whole.{Whole}
use Rattle.whole.proofs.Single.{whole_single}
use Rattle.answer.specs.Told.{told_amount}
use Rattle.answer.specs.declared.OutOfRange.{OutOfRange}
use Rattle.answer.proofs.Single.{amounts_coincide}
use Rattle.sines.specs.Sine.{sine_by, cosine_by, of_angle, turned_by}
use Rattle.minutes.specs.Quadrant.{circle, signed_by}
use Rattle.sines.specs.declared.Sides.{Sides}
use Rattle.sines.specs.declared.Signed.{Signed}

-- `sine` and `cosine`, and with the entries of a lent table `sine_in` and `cosine_in`
module _ (e : ℕ → ℤ) (a : ℕ) (x y : Result Whole OutOfRange) where
  pub sine_single : told_amount x ≡ of_angle a (sine_by e a)
      → told_amount y ≡ of_angle a (sine_by e a)
      → x ≡ y
  sine_single = amounts_coincide (of_angle a (sine_by e a)) x y

  pub cosine_single : told_amount x ≡ of_angle a (cosine_by e a)
      → told_amount y ≡ of_angle a (cosine_by e a) → x ≡ y
  cosine_single = amounts_coincide (of_angle a (cosine_by e a)) x y

-- `sides_in`
pub sides_single : (e : ℕ → ℤ) (a : ℕ) (x y : Result Sides OutOfRange) → x ≡ turned_by e a
    → y ≡ turned_by e a → x ≡ y
sides_single e a x y p q = p ∙ sym q

-- `Signed::amount`
pub amount_single : (s : Signed) (x y : Whole) → x.v ≡ signed_by s.negative (pos s.size)
    → y.v ≡ signed_by s.negative (pos s.size) → x ≡ y
amount_single s = whole_single (signed_by s.negative (pos s.size))

-- `in_circle`
pub circle_single : (a : ℕ) (x y : Result (Unit {0}) OutOfRange) → (IsOk x ↔ a < circle)
    → (IsOk y ↔ a < circle) → x ≡ y
circle_single a (Ok _) (Ok _) p q = refl
circle_single a (Err _) (Err _) p q = refl
circle_single a (Ok _) (Err _) p q =
    absurd (let z : ◌≡◌ {A = ℕ} 0 1 = cc (q.1 (p.0 (search rules))) in omega arith)
circle_single a (Err _) (Ok _) p q =
    absurd (let z : ◌≡◌ {A = ℕ} 0 1 = cc (p.1 (q.0 (search rules))) in omega arith)
