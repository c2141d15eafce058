-- Worked examples of the bridge and of the solver: a proof about ℤ is copied from one of these.
-- Nothing cites this file. Assumes nothing.
use mathlib.Core.Path.{◌≡◌, refl}
use mathlib.Core.List.{[], ◌∷◌}
use mathlib.Core.Logic.{⊎_elim}
use Prim.Native.Nat.{ℕ, ◌+◌, ◌*◌, ◌/◌, ◌≤◌, ◌<◌}
use native.Mathlib.Omega.{arith}
use lib.IntN.{ℤ, pos, negsuc, nat_abs, ◌+ℤ◌, ◌-ℤ◌, ◌*ℤ◌}
use Rattle.whole.specs.Order.{◌≤ᶻ◌, ◌<ᶻ◌}
use Rattle.whole.specs.Nearest.{nearest}
use Rattle.whole.proofs.Diff.{Diff, vars, ints, int, under, le, →le, abs_under, abs_known}
use Rattle.whole.proofs.Diff.{abs_cases}
use Rattle.whole.proofs.Laws.{mul_mono, mul_cancel, sub_nonneg, mul_nonneg}
use Rattle.whole.proofs.Ring.{ring, exps, reads, diff, poly}
use Rattle.whole.proofs.Rounding.{nearest_is}

-- A linear fact whose goal and hypotheses stand between plain variables: `omega int`, and nothing
-- else.
between : {a b c : ℤ} → a ≤ᶻ b → b <ᶻ c → a <ᶻ c
between h k = omega int

-- A linear fact of compound terms: name the unknowns, have the goal's sides read, and hand over
-- each hypothesis read.
shifted : (a b c : ℤ) → a +ℤ c ≤ᶻ b +ℤ c → a -ℤ pos 1 ≤ᶻ b
shifted a b c h = let v = vars (a ∷ b ∷ c ∷ []) in
    under (search ints) (omega (arith, le h (search ints)))

-- A size: nat_abs x ≤ k is two linear facts. The hypothesis is read by `abs_known`, the goal proved
-- by `abs_under`.
apart : (a b c : ℤ) (j k : ℕ) → nat_abs (a -ℤ b) ≤ j → nat_abs (b -ℤ c) ≤ k
    → nat_abs (a -ℤ c) ≤ j + k
apart a b c j k h i =
    let v = vars (a ∷ b ∷ c ∷ []) in
    abs_under (a -ℤ c) (search ints)
    (omega (arith, abs_known (a -ℤ b) (search ints) h, abs_known (b -ℤ c) (search ints) i))

-- A size inside something larger: the two cases of its sign.
half_off : (n q d : ℕ) → n + d ≡ 2 * q → 2 * nat_abs (pos n -ℤ pos q) ≤ n + d + 2 * d
half_off n q d e = let x : Diff (pos n -ℤ pos q) = search ints in
    ⊎_elim (λ w. omega arith) (λ w. omega arith) (abs_cases _ x)

-- An identity of any degree: the list has the unknowns, any terms of ℤ; `tt` says that every
-- coefficient of the difference is zero. A deep term wants a deeper search.
product : (a b c d : ℤ) → (a +ℤ b) *ℤ (c -ℤ d) ≡ a *ℤ c +ℤ b *ℤ c -ℤ a *ℤ d -ℤ b *ℤ d
product a b c d = ring (a ∷ b ∷ c ∷ d ∷ []) (λ v. search exps depth 20) tt

-- Naturals among the unknowns stand in the list as `pos d`.
scaled : (d n : ℕ) (x : ℤ)
    → pos 2 *ℤ pos d *ℤ (x +ℤ pos n) ≡ pos 2 *ℤ (x *ℤ pos d) +ℤ pos (2 * (n * d))
scaled d n x = ring (pos d ∷ pos n ∷ x ∷ []) (λ v. search exps) tt

-- An inequality that is linear in products, in whatever order they are written: `poly` in place of
-- the bridge's reading.
rearranged : (a b c d : ℤ) → a ≤ᶻ b → c ≤ᶻ d → a *ℤ d +ℤ b *ℤ c ≤ᶻ a *ℤ c +ℤ b *ℤ d
rearranged a b c d h k =
    let ρ = a ∷ b ∷ c ∷ d ∷ [] in
    let v = reads ρ in
    let m = mul_nonneg (sub_nonneg h) (sub_nonneg k) in
    under (poly ρ (search exps)) (omega (arith, le m (poly ρ (search exps))))

-- Fractions are compared by cross multiplication: a / b ≤ c / d and c / d ≤ e / f give a / b ≤ e /
-- f. The products of facts are chosen by hand.
cross_trans : (a c e : ℤ) (b d f : ℕ) → 0 < d → a *ℤ pos d ≤ᶻ c *ℤ pos b → c *ℤ pos f ≤ᶻ e *ℤ pos d
    → a *ℤ pos f ≤ᶻ e *ℤ pos b
cross_trans a c e b d f h j k =
    let ρ = a ∷ c ∷ e ∷ pos b ∷ pos d ∷ pos f ∷ [] in
    let v = reads ρ in
    let m = mul_mono (pos f) (→le (omega arith)) j in
    let n = mul_mono (pos b) (→le (omega arith)) k in
    mul_cancel d h (under (poly ρ (search exps))
    (omega (arith, le m (poly ρ (search exps)), le n (poly ρ (search exps)))))

-- The error of a sum of two roundings: sizes of terms that hold products.
two_roundings : (d : ℕ) (y z : ℤ) → 0 < d
    → nat_abs ((y +ℤ z) -ℤ (nearest y d +ℤ nearest z d) *ℤ pos d) ≤ d
two_roundings d y z h =
    let ρ = nearest y d ∷ nearest z d ∷ y ∷ z ∷ pos d ∷ [] in
    let v = reads ρ in
    let c = (nearest_is y d h).close in
    let e = (nearest_is z d h).close in
    let i = abs_known (y -ℤ nearest y d *ℤ pos d) (diff ρ (search exps)) (half c) in
    let j = abs_known (z -ℤ nearest z d *ℤ pos d) (diff ρ (search exps)) (half e) in
    abs_under ((y +ℤ z) -ℤ (nearest y d +ℤ nearest z d) *ℤ pos d) (diff ρ (search exps))
    (omega arith)
  where
    half : {n d : ℕ} → 2 * n ≤ d → n ≤ d / 2
    half h = omega arith

-- The function at work: 2.5 is 3, -2.5 is -3, -2.4 is -2, -0.5 is -1, 0 is 0.
halves : (nearest (pos 5) 2 ≡ pos 3) × (nearest (negsuc 4) 2 ≡ negsuc 2) ×
    (nearest (negsuc 23) 10 ≡ negsuc 1) × (nearest (negsuc 4) 10 ≡ negsuc 0) ×
    (nearest (pos 0) 7 ≡ pos 0)
unfolding nearest
halves = (refl, refl, refl, refl, refl)
