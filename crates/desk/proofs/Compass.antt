-- What the compass rule keeps, on any line: the first and the last station are exactly the fixed
-- ones, since nothing is shared at the start and all of the closure at the end, and what the legs
-- are given of it adds up to it.
use Prim.Native.Nat.{ℕ, zero, suc, ◌≤◌, ◌<◌}
use mathlib.Core.Path.{◌≡◌, refl}
use mathlib.Core.Logic.{⊎_elim}
use mathlib.Core.List.{[], ◌∷◌}
use native.Mathlib.Omega.{arith}
use native.Mathlib.Nat.{eq-or-lt_of_le}
use lib.IntN.{◌-ℤ◌}
use Rattle.whole.specs.Sum.{sum_to}
use Rattle.whole.proofs.Ring.{ring, exps}
use Rattle.steps.proofs.Sharing.{share_none, share_all, shares_add_up}
use Rattle.desk.specs.Line.{Line, run, run_all, preliminary, closure, share_at, adjusted}

-- the distance run never falls
pub run_up : (long : ℕ → ℕ) (k n : ℕ) → k ≤ n → run long k ≤ run long n
unfolding run
run_up long k zero h = let z : k ≡ 0 = omega arith in rw z (omega arith)
run_up long k (suc n) h =
    ⊎_elim (λ e. rw e (omega arith)) (λ low. omega (arith, run_up long k n (omega arith)))
    (eq-or-lt_of_le h)

module _ (l : Line) (far : 0 < run_all l) where
  pub first_fixed : adjusted l 0 ≡ l.from
  unfolding adjusted preliminary run
  first_fixed = rw (share_none (closure l) (run_all l) far)
      (ring (l.from ∷ []) (λ v. search exps) tt)

  pub last_fixed : adjusted l l.legs ≡ l.to
  unfolding adjusted
  last_fixed = rw (share_all (closure l) (run_all l) far)
      (ring (preliminary l l.legs ∷ l.to ∷ []) (λ v. search exps) tt)

  -- what leg k is given of the closure is the share at its end less that at its start
  pub legs_add_up : sum_to (λ (k : ℕ). share_at l (suc k) -ℤ share_at l k) l.legs ≡ closure l
  unfolding run
  legs_add_up = shares_add_up (closure l) (run_all l) far (run l.long) l.legs refl refl
