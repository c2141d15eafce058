-- The straight line between two entries: at either end it is the entry there, so that a whole
-- minute may be counted from the one before; and it never leaves what lies between the two.
use mathlib.Core.Path.{◌≡◌, sym, ◌∙◌, ap}
use mathlib.Core.List.{[], ◌∷◌}
use Prim.Native.Nat.{ℕ, ◌+◌, ◌-◌, ◌*◌, ◌/◌, ◌%◌, ◌≤◌}
use native.Mathlib.Nat.{mul-le-mul, mul-le-mul_left}
use native.Mathlib.Decide.{dec_le, dec_lt}
use native.Mathlib.Omega.{arith}
use lib.IntN.{ℤ, pos, neg_ℤ, ◌+ℤ◌, ◌-ℤ◌, ◌*ℤ◌, +ℤ_idr, *ℤ-zero}
use Rattle.whole.specs.Nearest.{nearest, half_up}
use Rattle.whole.proofs.Diff.{vars, ints, same}
use Rattle.whole.proofs.Ring.{ring, exps}
use Rattle.whole.proofs.Rounding.{nearest_neg, nearest_multiple, nearest_zero, half_up_most}
use Rattle.sines.specs.Sine.{between, quarter_by}

-- "at r = 0 it is entry m itself"
pub at_minute : (e f : ℤ) → between e f 0 ≡ e
unfolding between
at_minute e f = ap (λ (q : ℤ). e +ℤ q) nothing ∙ +ℤ_idr e
  where
    nothing : nearest ((f -ℤ e) *ℤ pos 0) 600 ≡ pos 0
    nothing = rw (*ℤ-zero (f -ℤ e)) (nearest_zero 600 (omega arith))

-- and at r = 600 it is the next one
at_next : (e f : ℤ) → between e f 600 ≡ f
unfolding between
at_next e f = let v = vars (e ∷ f ∷ []) in
    rw (nearest_multiple (f -ℤ e) 600 (omega arith)) (same (search ints) (omega arith))

-- so the sine of an angle of the first quadrant is the same from any minute that lies no more than
-- 600 tenths back
pub from_minute : (e : ℕ → ℤ) (a m r : ℕ) → a ≡ 600 * m + r → r ≤ 600
    → quarter_by e a ≡ between (e m) (e (m + 1)) r
unfolding quarter_by
from_minute e a m r i h =
    elim (dec_lt r 600) [
      | yes j ↦ let q : a / 600 ≡ m = omega arith in let s : a % 600 ≡ r = omega arith in rw (q, s)
      | no j ↦
          let q : a / 600 ≡ m + 1 = omega arith in
          let s : a % 600 ≡ 0 = omega arith in
          let z : r ≡ 600 = omega arith in
          rw (q, s, z, at_minute (e (m + 1)) (e (m + 1 + 1)), at_next (e m) (e (m + 1)))
    ]

-- a step of r of 600 parts over d is at most d
part : (d r : ℕ) → r ≤ 600 → half_up (d * r) 600 ≤ d
part d r h = half_up_most (d * r) 600 d (omega arith) (mul-le-mul_left d h)

-- and the product before it is divided is no large number
pub rise_most : (d r : ℕ) → d ≤ 1000000000 → r ≤ 600 → d * r ≤ 600000000000
rise_most d r h i = mul-le-mul h i

-- ---- the rule in sizes, as the code goes: up by a part of the difference, or down by one
module _ (a b r : ℕ) (low : a ≤ b) where
  pub rising : pos (a + half_up ((b - a) * r) 600) ≡ between (pos a) (pos b) r
  unfolding between nearest
  rising = rw e
    where
      e : (pos b -ℤ pos a) *ℤ pos r ≡ pos ((b - a) * r)
      e = ap (λ (z : ℤ). z *ℤ pos r)
          (same {x = pos b -ℤ pos a} {y = pos (b - a)} (search ints) (omega arith))

  pub rising_most : r ≤ 600 → a + half_up ((b - a) * r) 600 ≤ b
  rising_most h = omega (arith, part (b - a) r h)

module _ (a b r : ℕ) (low : b ≤ a) (h : r ≤ 600) where
  pub falling_most : b + half_up ((a - b) * r) 600 ≤ a
  falling_most = omega (arith, part (a - b) r h)

  pub falling : pos (a - half_up ((a - b) * r) 600) ≡ between (pos a) (pos b) r
  unfolding between nearest
  falling =
      rw (e, nearest_neg (pos ((a - b) * r)) 600 (omega arith))
      (same {x = pos (a - half_up ((a - b) * r) 600)} {y = pos a -ℤ pos (half_up ((a - b) * r) 600)}
      (search ints) (omega (arith, falling_most)))
    where
      e : (pos b -ℤ pos a) *ℤ pos r ≡ neg_ℤ (pos ((a - b) * r))
      e = ap (λ (z : ℤ). z *ℤ pos r)
          (same {x = pos b -ℤ pos a} {y = neg_ℤ (pos (a - b))} (search ints) (omega arith)) ∙ ring
          (pos (a - b) ∷ pos r ∷ []) (λ v. search exps) tt

-- so between two natural numbers it is one, and no larger than they are
pub between_most : (a b r k : ℕ) → r ≤ 600 → a ≤ k → b ≤ k
    → (n : ℕ) × (between (pos a) (pos b) r ≡ pos n) × (n ≤ k)
between_most a b r k h i j =
    elim (dec_le a b) [
      | yes low ↦ (
        a + half_up ((b - a) * r) 600,
        sym (rising a b r low),
        omega (arith, rising_most a b r low h),
      )
      | no high ↦ (a - half_up ((a - b) * r) 600, sym (falling a b r (omega arith) h), omega arith)
    ]
