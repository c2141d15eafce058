-- The whole root and the precision number: the definitions have the properties that name them, and
-- nothing else has.
use mathlib.Core.Path.{◌≡◌, refl, sym, ◌∙◌}
use mathlib.Core.Bool.{Bool, true, false, cond, ◌&&◌}
use Prim.Native.Nat.{ℕ, zero, suc, ◌+◌, ◌-◌, ◌*◌, ◌/◌, ◌^◌, ◌≤◌, ◌<◌}
use native.Mathlib.Nat.{lt_of_le_of_lt, le-div_iff_mul-le, div-lt_iff_lt-mul, div-le_self}
use native.Mathlib.Nat.{le_antisymm, pow-succ'}
use native.Mathlib.Decide.{dec_le, ℕ_discrete}
use native.Mathlib.Omega.{arith}
use borrow.Author.Tests.{le-leb, lt-leb, eq-eqb, ne_eqb}
use lib.Dec.{leb, lit<}
use lib.IntN.{ℤ, nat_abs}
use mir.Syntax.{w64}
use mir.Val.{Fits}
use Rattle.steps.proofs.Laws.{product_most, square_most, below_root}
use Rattle.std.proofs.Common.{Ok, Err}
use Rattle.answer.specs.Told.{told, told_count, inside}
use Rattle.answer.proofs.Telling.{both, not_first, not_second, inside_yes}
use Rattle.answer.specs.declared.OutOfRange.{OutOfRange}
use Rattle.steps.specs.Closure.{most_sum, squares, closes, root, precision}
use Rattle.steps.specs.Closure.{Precision, PrecisionTold}
use Rattle.steps.specs.Root.{WholeRoot, worked}
use Rattle.steps.proofs.Ranges.{outside}
use Rattle.steps.proofs.root.ByDigits.{worked_is}

pub root_unique : (x r q : ℕ) → WholeRoot x r → WholeRoot x q → r ≡ q
root_unique x r q h k =
    le_antisymm (below_root x q r h.0 k.1) (below_root x r q k.0 h.1)

pub root_is : (k x : ℕ) → x < 4 ^ k → WholeRoot x (root k x)
unfolding root
root_is zero x h = omega arith
root_is (suc k) x h = next (root k (x / 4)) x (root_is k (x / 4) (omega (arith, pow-succ' 4 k)))
  where
    next : (r x : ℕ) → WholeRoot (x / 4) r
        → WholeRoot x (cond (leb ((2 * r + 1) * (2 * r + 1)) x) (2 * r + 1) (2 * r))
    next r x h =
        elim (dec_le ((2 * r + 1) * (2 * r + 1)) x) [
          | yes i ↦ rw (le-leb ((2 * r + 1) * (2 * r + 1)) x i) (i, omega arith)
          | no i ↦ rw (lt-leb ((2 * r + 1) * (2 * r + 1)) x (omega arith))
              (omega arith, omega arith)
        ]

-- ---- the precision number
-- what the rules ask of P, with q for the sum of the closures' squares
pub largest_root : (q s p : ℕ) → 0 < q → WholeRoot (s * s / (100 * q)) p
    → (p * p * (100 * q) ≤ s * s) × ((k : ℕ) → k * k * (100 * q) ≤ s * s → k ≤ p)
largest_root q s p h r = (
  (le-div_iff_mul-le {k = 100 * q} (omega arith)).0 r.0,
  λ k i. below_root (s * s / (100 * q)) p k
      ((le-div_iff_mul-le {k = 100 * q} (omega arith)).1 i) r.1,
)

quotient_small : (q s : ℕ) → s < 2 ^ 32 → s * s / (100 * q) < 4 ^ 32
quotient_small q s h = lt_of_le_of_lt (div-le_self (s * s) (100 * q))
    (lt_of_le_of_lt (product_most s s (2 ^ 32 - 1) (2 ^ 32 - 1) (omega arith) (omega arith))
    (lit< tt))

pub precision_is : (north east : ℤ) (s : ℕ) → s < 2 ^ 32
    → Precision north east s (precision north east s)
unfolding precision
precision_is north east s h =
    elim (ℕ_discrete (squares north east) 0) [
      | yes e ↦ rw (eq-eqb (squares north east) 0 e)
          (record { none = λ z. refl; fits = λ n. absurd (n e); largest = λ n. absurd (n e) })
      | no n ↦
          let l = largest_root (squares north east) s (root 32 (s * s / (100 * squares north east)))
          (omega arith) (root_is 32 (s * s / (100 * squares north east))
          (quotient_small (squares north east) s h)) in
          rw (ne_eqb (squares north east) 0 n)
          (record { none = λ z. absurd (n z); fits = λ z. l.0; largest = λ z. l.1 })
    ]

pub precision_unique : (north east : ℤ) (s p r : ℕ) → Precision north east s p
    → Precision north east s r → p ≡ r
precision_unique north east s p r a b =
    elim (ℕ_discrete (squares north east) 0) [
      | yes e ↦ a.none e ∙ sym (b.none e)
      | no n ↦ le_antisymm (b.largest n p (a.fits n)) (a.largest n r (b.fits n))
    ]

-- it is no more than S, since a sum of squares is 0 or at least 1
pub precision_most : (north east : ℤ) (s : ℕ) → s < 2 ^ 32 → precision north east s ≤ s
precision_most north east s h =
    let p = precision north east s in
    let r = precision_is north east s h in
    elim (ℕ_discrete (squares north east) 0) [
      | yes e ↦ omega (arith, r.none e)
      | no n ↦ below_root (s * s) s p
          (omega (
            arith,
            r.fits n,
            product_most (p * p) 1 (p * p) (100 * squares north east) (omega arith) (omega arith),
          ))
          (omega arith)
    ]

-- ---- as the code has them
-- the number whose root is taken has nine pairs of digits or fewer
pub few_pairs : (both s : ℕ) → (both ≡ 0 → ⊥) → s ≤ 1300000000 → s * s / (100 * both) < 100 ^ 9
few_pairs both s z h =
    (div-lt_iff_lt-mul {k = 100 * both} (omega arith)).1 (omega (arith, square_most s h))

-- a refusal tells no number
pub none_told : (north east : ℤ) (s : ℕ) (e : OutOfRange)
    → PrecisionTold north east s (told_count (Err e))
unfolding told
none_told north east s e = record { largest = λ z. absurd (omega (arith, z)) }

-- the squares of two closures, and their sum
module _ (z : ℤ) (n : ℕ) (f : n ≡ nat_abs z) (h : nat_abs z ≤ 1200000000) where
  square_size : n * n ≤ 1440000000000000000
  square_size = product_most n n 1200000000 1200000000 (omega arith) (omega arith)

  pub size_fits : Fits w64 (n * n)
  size_fits = record { fits = omega (arith, square_size) }

pub sizes_fit : (y z : ℤ) (n e : ℕ) → n ≡ nat_abs y → nat_abs y ≤ 1200000000 → e ≡ nat_abs z
    → nat_abs z ≤ 1200000000 → Fits w64 (n * n + e * e)
sizes_fit y z n e f h g k =
    record { fits = omega (arith, square_size y n f h, square_size z e g k) }

-- closures that stand, and such as do not
abbrev Stand : ℤ → ℤ → ℕ → ℕ → Type 0
Stand north east s most = (nat_abs north ≤ most) × (nat_abs east ≤ most) × (1 ≤ s) × (s ≤ most_sum)

abbrev stand : ℤ → ℤ → ℕ → ℕ → Bool
stand north east s most =
    leb (nat_abs north) most && leb (nat_abs east) most && inside 1 most_sum s

pub standing : (north east : ℤ) (s most : ℕ) → Stand north east s most
    → stand north east s most ≡ true
standing north east s most h =
    both _ _
    (both _ _ (le-leb (nat_abs north) most h.0) (le-leb (nat_abs east) most h.1))
    (inside_yes 1 most_sum s h.2 h.3)

pub not_standing : (north east : ℤ) (s most : ℕ) → (Stand north east s most → ⊥)
    → stand north east s most ≡ false
not_standing north east s most h =
    elim (dec_le (nat_abs north) most) [
      | yes i ↦ elim (dec_le (nat_abs east) most) [
        | yes j ↦ not_second _ _ (outside 1 most_sum s (λ k. h (i, j, k.0, k.1)))
        | no j ↦ not_first _ _ (not_second _ _ (lt-leb (nat_abs east) most (omega arith)))
      ]
      | no i ↦ not_first _ _ (not_first _ _ (lt-leb (nat_abs north) most (omega arith)))
    ]

module _ (north east : ℤ) (both s : ℕ) (b : both ≡ squares north east) where
  pub hundred_fits : nat_abs north ≤ 26000 → nat_abs east ≤ 26000 → Fits w64 (100 * both)
  hundred_fits h k =
      let n = product_most (nat_abs north) (nat_abs north) 26000 26000 h h in
      let e = product_most (nat_abs east) (nat_abs east) 26000 26000 k k in
      record { fits = omega arith }

  pub no_closure : both ≡ 0 → 0 ≡ precision north east s
  unfolding precision
  no_closure z = rw (eq-eqb (squares north east) 0 (sym b ∙ z))

  pub some_closure : (r : ℕ) → WholeRoot (s * s / (100 * both)) r → (both ≡ 0 → ⊥) → s ≤ 1300000000
      → r ≡ precision north east s
  unfolding precision
  some_closure r h z k =
      rw (ne_eqb (squares north east) 0 (λ w. z (b ∙ w)))
      (root_unique (s * s / (100 * both)) r (root 32 (s * s / (100 * squares north east))) h
      (rw b (root_is 32 (s * s / (100 * squares north east))
      (quotient_small (squares north east) s (omega arith)))))

  -- the rule, of what is told: none of no closures, and else the root of the quotient
  pub zero_told : both ≡ 0 → PrecisionTold north east s (told_count (Ok 0))
  unfolding told
  zero_told z =
      let w : squares north east ≡ 0 = sym b ∙ z in
      let none : Precision north east s 0 =
      record { none = λ v. refl; fits = λ n. absurd (n w); largest = λ n. absurd (n w) } in
      record { largest = λ u. none }

  pub largest_told : (r : ℕ) → WholeRoot (s * s / (100 * both)) r → (both ≡ 0 → ⊥)
      → PrecisionTold north east s (told_count (Ok r))
  unfolding told
  largest_told r h z =
      let l = largest_root (squares north east) s r (omega (arith, b, z)) (rw b at h) in
      let all : Precision north east s r =
      record { none = λ w. absurd (z (b ∙ w)); fits = λ n. l.0; largest = λ n. l.1 } in
      record { largest = λ u. all }

  -- the test, divided by 50,000 squared
  pub closes_yes : both ≤ s * s / 2500000000 → closes north east s ≡ true
  unfolding closes
  closes_yes h = le-leb (50000 * 50000 * squares north east) (s * s) (omega (arith, b))

  pub closes_no : s * s / 2500000000 < both → closes north east s ≡ false
  unfolding closes
  closes_no h = lt-leb (50000 * 50000 * squares north east) (s * s) (omega (arith, b))

  pub closes_is : leb both (s * s / 2500000000) ≡ closes north east s
  closes_is =
      elim (dec_le both (s * s / 2500000000)) [
        | yes h ↦ rw (le-leb both (s * s / 2500000000) h) (sym (closes_yes h))
        | no h ↦
            rw (lt-leb both (s * s / 2500000000) (omega arith)) (sym (closes_no (omega arith)))
      ]

-- so the precision number is the root that the digit-by-digit method finds
pub precision_worked : (north east : ℤ) (s : ℕ) → (squares north east ≡ 0 → ⊥) → s ≤ 1300000000
    → precision north east s ≡ (worked 9 (s * s / (100 * squares north east))).root
precision_worked north east s z h =
    let q = squares north east in
    let x = s * s / (100 * q) in
    let r = worked_is 9 x (few_pairs q s z h) in
    sym (some_closure north east q s refl (worked 9 x).root r z h)
