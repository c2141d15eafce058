-- What a test of a range says where it failed.
use mathlib.Core.Path.{◌≡◌}
use mathlib.Core.Bool.{false}
use Prim.Native.Nat.{ℕ, ◌≤◌}
use native.Mathlib.Decide.{dec_le}
use native.Mathlib.Omega.{arith}
use Rattle.answer.specs.Told.{inside}
use Rattle.answer.proofs.Telling.{inside_low, inside_high}

pub outside : (low high n : ℕ) → ((low ≤ n) × (n ≤ high) → ⊥) → inside low high n ≡ false
outside low high n h =
    elim (dec_le low n) [
      | yes i ↦ elim (dec_le n high) [
        | yes j ↦ absurd (h (i, j))
        | no j ↦ inside_high low high n (omega arith)
      ]
      | no i ↦ inside_low low high n (omega arith)
    ]
