-- Products of bounded numbers, which `omega` does not multiply by itself: the kit's law with its
-- four numbers named, since `omega` is to prove its premises.
use Prim.Native.Nat.{ℕ, ◌+◌, ◌*◌, ◌≤◌, ◌<◌}
use native.Mathlib.Nat.{mul-le-mul}
use native.Mathlib.Decide.{dec_le}
use native.Mathlib.Omega.{arith}
use mir.Syntax.{w64}
use mir.Val.{Fits}

pub product_most : (a b m n : ℕ) → a ≤ m → b ≤ n → a * b ≤ m * n
product_most a b m n h k = mul-le-mul h k

-- a number whose square is below that of r + 1 is at most r
pub below_root : (x r k : ℕ) → k * k ≤ x → x < (r + 1) * (r + 1) → k ≤ r
below_root x r k h i =
    elim (dec_le k r) [
      | yes j ↦ j
      | no j ↦
          let m = product_most (r + 1) (r + 1) k k (omega arith) (omega arith) in
          absurd (omega arith)
    ]

-- the square of a sum of grid distances
pub square_most : (s : ℕ) → s ≤ 1300000000 → s * s ≤ 1690000000000000000
square_most s h = product_most s s 1300000000 1300000000 h h

pub square_fits : (s : ℕ) → s ≤ 1300000000 → Fits w64 (s * s)
square_fits s h = record { fits = omega (arith, square_most s h) }
