-- The combined factor: over the elevations of the tape the sea level factor stays within a
-- thousandth of 1, and so does the row's, so their product is within the range that the distance
-- step takes.
use Prim.Native.Nat.{ℕ, suc, ◌+◌, ◌-◌, ◌*◌, ◌≤◌, ◌<◌}
use native.Mathlib.Omega.{arith}
use native.Mathlib.Decide.{dec_le}
use native.Mathlib.Nat.{div-lt_iff_lt-mul}
use mathlib.Core.Path.{◌≡◌, ap}
use mathlib.Core.Bool.{true, ◌&&◌, and-eq-true_iff}
use borrow.Author.Tests.{leb-true}
use lib.Dec.{leb}
use lib.IntN.{ℤ, pos, negsuc, neg_ℤ, nat_abs, ◌+ℤ◌}
use lib.Signed.{le_z}
use Rattle.whole.specs.Nearest.{half_up}
use Rattle.whole.proofs.Diff.{ints, same}
use Rattle.whole.proofs.Rounding.{half_up_most}
use Rattle.std.specs.Prelude.{Result, Ok, IsOk}
use Rattle.answer.specs.declared.OutOfRange.{OutOfRange}
use Rattle.answer.specs.Told.{told_count, inside}
use Rattle.answer.proofs.Telling.{has_value, value_told, both, inside_yes}
use Rattle.steps.specs.Distance.{sea_level, combine, sea_level_step, combine_step}
use Rattle.steps.proofs.Laws.{product_most}

-- a divisor of 20,905,000 to 20,926,000 feet
quotient_range : (d : ℕ) → 20905000 ≤ d → d ≤ 20926000
    → (9990000 ≤ half_up 209060000000000 d) × (half_up 209060000000000 d ≤ 10010000)
quotient_range d low high =
    (least, half_up_most 209060000000000 d 10010000 (omega arith) (omega arith))
  where
    least : 9990000 ≤ half_up 209060000000000 d
    least =
        elim (dec_le 9990000 (half_up 209060000000000 d)) [
          | yes i ↦ i
          | no i ↦ absurd (omega (
            arith,
            (div-lt_iff_lt-mul {k = 2 * d} {x = 2 * 209060000000000 + d} {y = 9990000}
                (omega arith)).0 (omega arith),
          ))
        ]

sea_range : (z : ℤ) → (le_z (neg_ℤ (pos 1000)) z && le_z z (pos 20000)) ≡ true
    → (9990000 ≤ sea_level z) × (sea_level z ≤ 10010000)
unfolding sea_level
sea_range (pos n) h = let i = leb-true n 20000 h in
    quotient_range (20906000 + n) (omega arith) (omega arith)
sea_range (negsuc n) h =
    let i = leb-true n 999 ((and-eq-true_iff (leb n 999) true).0 h).0 in
    let e : pos 20906000 +ℤ negsuc n ≡ pos (20906000 - suc n) = same (search ints) (omega arith) in
    rw e (quotient_range (20906000 - suc n) (omega arith) (omega arith))

combined_most : (sea scale : ℕ) → 9990000 ≤ sea → sea ≤ 10010000 → 9990000 ≤ scale
    → scale ≤ 10010000
    → (9980000 ≤ combine sea scale) × (combine sea scale ≤ 10020010)
unfolding combine
combined_most sea scale low high least most = (
  omega (arith, product_most 9990000 9990000 sea scale low least),
  omega (arith, product_most sea scale 10010000 10010000 high most),
)

pub combined_range : (z : ℤ) (scale : ℕ) → (le_z (neg_ℤ (pos 1000)) z && le_z z (pos 20000)) ≡ true
    → 9990000 ≤ scale → scale ≤ 10010000
    → (9980000 ≤ combine (sea_level z) scale) × (combine (sea_level z) scale ≤ 10020010)
combined_range z scale good least most = let s = sea_range z good in
    combined_most (sea_level z) scale s.0 s.1 least most

-- ---- the steps, whose input is in range
module _ (r : Result ℕ OutOfRange) (z : ℤ)
    (good : (le_z (neg_ℤ (pos 1000)) z && le_z z (pos 20000)) ≡ true)
    (t : told_count r ≡ sea_level_step z) where
  pub sea_there : IsOk r
  sea_there = has_value pos r _ _ t good

  module _ (n : ℕ) (f : r ≡ Ok n) where
    pub sea_is : n ≡ sea_level z
    sea_is = ap nat_abs (value_told pos r n _ _ t good f)

    pub sea_low : 9990000 ≤ n
    sea_low = rw sea_is (sea_range z good).0

    pub sea_high : n ≤ 10010000
    sea_high = rw sea_is (sea_range z good).1

module _ (r : Result ℕ OutOfRange) (sea scale : ℕ) (low : 9990000 ≤ sea) (high : sea ≤ 10010000)
    (least : 9990000 ≤ scale) (most : scale ≤ 10010000)
    (t : told_count r ≡ combine_step sea scale) where
  good : (inside 9990000 10010000 sea && inside 9990000 10010000 scale) ≡ true
  good = both _ _ (inside_yes 9990000 10010000 sea low high)
      (inside_yes 9990000 10010000 scale least most)

  pub combined_there : IsOk r
  combined_there = has_value pos r _ _ t good

  module _ (n : ℕ) (f : r ≡ Ok n) where
    combined_told : n ≡ combine sea scale
    combined_told = ap nat_abs (value_told pos r n _ _ t good f)

    pub combined_is : (z : ℤ) → sea ≡ sea_level z → n ≡ combine (sea_level z) scale
    combined_is z e = rw (← e) combined_told

    pub combined_high : n < 10020011
    combined_high = let m = combined_most sea scale low high least most in
        rw combined_told (omega (arith, m.1))
