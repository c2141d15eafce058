-- What the needs of signed code ask, said of the integers themselves. A signed value passes through
-- its bits, so a need speaks of `back z` where the code says z; below 2 ^ 63 in size that is z
-- again, for every operation and test alike. Assumes nothing.
use mathlib.Core.Path.{◌≡◌, refl, sym, ◌∙◌, subst}
use mathlib.Core.Bool.{true, false, ◌&&◌, and-true}
use Prim.Native.Nat.{ℕ, zero, suc, ◌+◌, ◌-◌, ◌*◌, ◌^◌, ◌≤◌, ◌<◌}
use native.Mathlib.Nat.{mul-lt-mul_of_pos_right, mul-le-mul_left, lt_of_le_of_lt, le_of_lt}
use native.Mathlib.Omega.{arith}
use lib.Dec.{T, leb, leb-zero, leb-suc-zero, leb-suc-suc}
use borrow.Author.Tests.{ltb-true}
use lib.IntN.{ℤ, pos, negsuc, neg_ℤ, nat_abs, ◌+ℤ◌, ◌-ℤ◌, ◌*ℤ◌, neg_ℤ-neg_ℤ, +ℤ_idl}
use lib.Signed.{lt_z, le_z, non_neg, mag}
use mir.Syntax.{w64}
use mir.Val.{SFits, Fits, to_z, of_z}
use mir.Facts.{to_z-of_z}
use Rattle.whole.proofs.Diff.{ints, same}
use Rattle.whole.proofs.Laws.{abs_neg, abs_mul}

-- ---- to bits and back
abbrev pub back : ℤ → ℤ
back z = to_z w64 (of_z w64 z)

pub sfits : (z : ℤ) → nat_abs z < 2 ^ 63 → SFits w64 z
sfits (pos n) h = record { sfits = omega arith }
sfits (negsuc n) h = record { sfits = omega arith }

pub back_is : (z : ℤ) → nat_abs z < 2 ^ 63 → back z ≡ z
back_is z h = to_z-of_z (sfits z h)

-- ---- an operation whose result is small enough fits, and is the operation on ℤ. `search` finds
-- the operands in the need
module _ (op : ℤ → ℤ → ℤ) (x y : ℤ) (hx : nat_abs x < 2 ^ 63) (hy : nat_abs y < 2 ^ 63)
    (h : nat_abs (op x y) < 2 ^ 63) where
  op_fits : SFits w64 (op (back x) (back y))
  op_fits = rw (back_is x hx, back_is y hy) (sfits (op x y) h)

  op_is : back (op (back x) (back y)) ≡ op x y
  op_is = rw (back_is x hx, back_is y hy) (back_is (op x y) h)

-- the sum and the difference, whose size is at most the sizes' sum
module _ (op : ℤ → ℤ → ℤ) (near : (x y : ℤ) → nat_abs (op x y) ≤ nat_abs x + nat_abs y) (x y : ℤ)
    (hx : nat_abs x < 2 ^ 62) (hy : nat_abs y < 2 ^ 62) where
  abbrev small : nat_abs (op x y) < 2 ^ 63
  small = omega (arith, near x y)

  pub sum_fits : SFits w64 (op (back x) (back y))
  sum_fits = op_fits op x y (omega arith) (omega arith) small

  pub sum_is : back (op (back x) (back y)) ≡ op x y
  sum_is = op_is op x y (omega arith) (omega arith) small

  pub sum_size : nat_abs (back (op (back x) (back y))) ≤ nat_abs x + nat_abs y
  sum_size = rw sum_is (near x y)

-- the product
abs_mul_lt : (x y : ℤ) {j k : ℕ} → nat_abs x < j → nat_abs y < k → nat_abs (x *ℤ y) < j * k
abs_mul_lt x y {j} {k} h i =
    rw (abs_mul x y) (lt_of_le_of_lt (mul-le-mul_left (nat_abs x) (le_of_lt i))
    (mul-lt-mul_of_pos_right h (omega arith)))

module _ (x y : ℤ) (hx : nat_abs x < 2 ^ 34) (hy : nat_abs y < 2 ^ 28) where
  abbrev product_small : nat_abs (x *ℤ y) < 2 ^ 62
  product_small = abs_mul_lt x y hx hy

  pub product_fits : SFits w64 (back x *ℤ back y)
  product_fits = op_fits ◌*ℤ◌ x y (omega arith) (omega arith) (omega (arith, product_small))

  pub product_is : back (back x *ℤ back y) ≡ x *ℤ y
  product_is = op_is ◌*ℤ◌ x y (omega arith) (omega arith) (omega (arith, product_small))

  pub product_size : nat_abs (back (back x *ℤ back y)) < 2 ^ 62
  product_size = rw product_is product_small

-- the opposite is computed as zero less z
pub opposite_fits : (z : ℤ) → nat_abs z < 2 ^ 63 → SFits w64 (pos 0 -ℤ back z)
opposite_fits z h = rw (back_is z h, +ℤ_idl (neg_ℤ z)) (sfits (neg_ℤ z) (rw (abs_neg z) h))

pub opposite_is : (z : ℤ) → nat_abs z < 2 ^ 63 → back (pos 0 -ℤ back z) ≡ neg_ℤ z
opposite_is z h = rw (back_is z h, +ℤ_idl (neg_ℤ z)) (back_is (neg_ℤ z) (rw (abs_neg z) h))

pub opposite_size : (z : ℤ) → nat_abs z < 2 ^ 63 → nat_abs (back (pos 0 -ℤ back z)) ≡ nat_abs z
opposite_size z h = rw (opposite_is z h) (abs_neg z)

-- a number by its sign
pub sign_below : (z : ℤ) → lt_z z (pos 0) ≡ true → (n : ℕ) × (z ≡ negsuc n)
sign_below (pos n) e = absurd (omega (arith, ltb-true n 0 e))
sign_below (negsuc n) e = (n, refl)

pub sign_above : (z : ℤ) → lt_z z (pos 0) ≡ false → (n : ℕ) × (z ≡ pos n)
sign_above (pos n) e = (n, refl)
sign_above (negsuc n) e = absurd (subst T e tt)

-- a range -low..high, which the code tests on the size by the sign
pub range_below : (z : ℤ) (n low high : ℕ) → n ≡ nat_abs z → lt_z z (pos 0) ≡ true
    → leb n low ≡ (le_z (neg_ℤ (pos low)) z && le_z z (pos high))
range_below z n low high f e = let s = sign_below z e in rw (f, s.1) (go low s.0)
  where
    go : (low n : ℕ) → leb (suc n) low ≡ (le_z (neg_ℤ (pos low)) (negsuc n) && true)
    go zero n = leb-suc-zero n
    go (suc low) n = leb-suc-suc n low ∙ sym (and-true (leb n low))

pub range_above : (z : ℤ) (n low high : ℕ) → n ≡ nat_abs z → lt_z z (pos 0) ≡ false
    → leb n high ≡ (le_z (neg_ℤ (pos low)) z && le_z z (pos high))
range_above z n low high f e = let s = sign_above z e in rw (f, s.1) (go low s.0)
  where
    go : (low n : ℕ) → leb n high ≡ (le_z (neg_ℤ (pos low)) (pos n) && leb n high)
    go zero n = rw (leb-zero n)
    go (suc low) n = refl

-- ---- by the sign. Of an amount below zero the code takes one more, turns the sign, and adds the
-- one again: so it does for the least i64 too
back_all : (z : ℤ) → mag z < 2 ^ 63 → back z ≡ z
back_all z m = to_z-of_z {w = w64} (record { sfits = m })

module _ (z : ℤ) (m : mag z < 2 ^ 63) (e : lt_z (back z) (pos 0) ≡ true) where
  -- one less than the size
  abbrev rest : ℕ
  rest = nat_abs z - 1

  rest_is : (nat_abs z ≡ rest + 1) × (rest < 2 ^ 63) × (z +ℤ pos 1 ≡ neg_ℤ (pos rest))
  rest_is =
      let s = sign_below z (subst (λ (y : ℤ). lt_z y (pos 0) ≡ true) (back_all z m) e) in
      let small = subst (λ (y : ℤ). mag y < 2 ^ 63) s.1 m in
      rw s.1 (omega arith, omega arith, same (search ints) (omega arith))

  one_more : back z +ℤ pos 1 ≡ neg_ℤ (pos rest)
  one_more = rw (back_all z m) rest_is.2

  turned : pos 0 -ℤ back (back z +ℤ pos 1) ≡ pos rest
  turned = rw (
    one_more,
    back_is (neg_ℤ (pos rest)) (rw (abs_neg (pos rest)) rest_is.1),
    neg_ℤ-neg_ℤ (pos rest),
    +ℤ_idl (pos rest),
  )

  abbrev again : ℤ
  again = back (pos 0 -ℤ back (back z +ℤ pos 1))

  again_is : again ≡ pos rest
  again_is = rw turned (back_is (pos rest) rest_is.1)

  pub below_more_fits : SFits w64 (back z +ℤ pos 1)
  below_more_fits = rw one_more (sfits (neg_ℤ (pos rest)) (rw (abs_neg (pos rest)) rest_is.1))

  pub below_turned_fits : SFits w64 (pos 0 -ℤ back (back z +ℤ pos 1))
  below_turned_fits = rw turned (sfits (pos rest) rest_is.1)

  pub below_cast : T (non_neg again) × Fits w64 (nat_abs again)
  below_cast = rw again_is (tt, record { fits = omega (arith, rest_is.1) })

  pub below_again_fits : Fits w64 (nat_abs again + 1)
  below_again_fits = rw again_is (record { fits = omega (arith, rest_is.1) })

  pub below_size : nat_abs again + 1 ≡ nat_abs z
  below_size = rw again_is (sym rest_is.0)

pub above_cast : (z : ℤ) → mag z < 2 ^ 63 → lt_z (back z) (pos 0) ≡ false
    → T (non_neg (back z)) × Fits w64 (nat_abs (back z))
above_cast z m e =
    let s = sign_above z (subst (λ (y : ℤ). lt_z y (pos 0) ≡ false) (back_all z m) e) in
    let small = subst (λ (y : ℤ). mag y < 2 ^ 63) s.1 m in
    rw (back_all z m, s.1) (tt, record { fits = omega arith })
