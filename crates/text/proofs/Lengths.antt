-- How long the text of a number is at most, by a power of ten that the number is below: it has no
-- more digits than the power has zeros, and the point, the decimals and a sign are so many bytes
-- more.
use Prim.Native.Nat.{ℕ, suc, ◌+◌, ◌-◌, ◌/◌, ◌^◌, ◌≤◌, ◌<◌}
use native.Mathlib.Omega.{arith}
use native.Mathlib.Nat.{lt_of_le_of_lt, div-le_self}
use mathlib.Core.List.{List, ◌++◌}
use lib.ListN.{length, length-append}
use lib.IntN.{ℤ, pos, nat_abs}
use lib.Signed.{lt_z}
use mir.Syntax.{w64}
use mir.Val.{Fits}
use Rattle.whole.proofs.Branch.{by_test}
use Rattle.text.specs.Text.{digits, decimal, pointed, sign, amount}
use Rattle.text.specs.Room.{Room}
use Rattle.text.proofs.Digits.{digit_count_most, digits_length, decimal_length}

pub decimal_most : (k n : ℕ) → n < 10 ^ suc k → length (decimal n) ≤ suc k
decimal_most k n h = rw (decimal_length n) (digit_count_most k n h)

pointed_most : (d k n : ℕ) → n < 10 ^ suc k → length (pointed d n) ≤ 2 + k + d
unfolding pointed
pointed_most d k n h =
    simp length-append
    (omega (
      arith,
      decimal_most k (n / 10 ^ d) (lt_of_le_of_lt (div-le_self n (10 ^ d)) h),
      digits_length d n,
    ))

pub amount_most : (plus : List ℕ) (d k : ℕ) (z : ℤ) → length plus ≤ 1 → nat_abs z < 10 ^ suc k
    → length (amount plus d z) ≤ 3 + k + d
unfolding amount sign
amount_most plus d k z h i =
    let n = pointed_most d k (nat_abs z) i in
    by_test (λ (l : List ℕ). length (l ++ pointed d (nat_abs z)) ≤ 3 + k + d) (lt_z z (pos 0))
    (λ e. omega (arith, n))
    (λ e. omega (arith, length-append plus (pointed d (nat_abs z)), n))

-- ---- room for digits, and for every number of 64 bits, where enough bytes are left after an
-- offset
module _ (l : List ℕ) (at n : ℕ) (h : at ≤ length l) where
  pub digits_fit : (k : ℕ) → k ≤ length l - at → Room l at (digits k n)
  digits_fit k i = omega (arith, digits_length k n)

  pub decimal_fits : Fits w64 n → 20 ≤ length l - at → Room l at (decimal n)
  decimal_fits f i = omega (arith, decimal_most 19 n (omega (arith, f.fits)))
