-- Sums along an index: bounded, and telescoped. Assumes nothing.
use mathlib.Core.Path.{◌≡◌}
use mathlib.Core.List.{[], ◌∷◌}
use Prim.Native.Nat.{ℕ, zero, suc, ◌*◌, ◌≤◌, ◌<◌}
use native.Mathlib.Omega.{arith}
use lib.IntN.{ℤ, nat_abs, ◌-ℤ◌}
use Rattle.whole.specs.Sum.{sum_to}
use Rattle.whole.proofs.Laws.{triangle}
use Rattle.whole.proofs.Ring.{ring, exps}

-- n terms of size k at most
pub sum_to_size : (f : ℕ → ℤ) (n k : ℕ) → ((i : ℕ) → i < n → nat_abs (f i) ≤ k)
    → nat_abs (sum_to f n) ≤ n * k
unfolding sum_to
sum_to_size f zero k h = omega arith
sum_to_size f (suc n) k h =
    omega (
      arith,
      triangle (sum_to f n) (f n),
      h n (omega arith),
      sum_to_size f n k (λ i low. h i (omega arith)),
    )

-- what is added step by step is the last less the first
pub telescope : (f : ℕ → ℤ) (n : ℕ) → sum_to (λ (i : ℕ). f (suc i) -ℤ f i) n ≡ f n -ℤ f 0
unfolding sum_to
telescope f zero = ring (f 0 ∷ []) (λ v. search exps) tt
telescope f (suc n) = rw (telescope f n) (ring (f (suc n) ∷ f n ∷ f 0 ∷ []) (λ v. search exps) tt)
