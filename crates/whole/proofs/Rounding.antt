-- What `nearest` is: the one number that the property `Nearest` allows, odd, rising, exact at whole
-- multiples, and no larger than what is rounded. Assumes nothing.
use mathlib.Core.Path.{◌≡◌, refl, sym, ◌∙◌, ap}
use mathlib.Core.List.{[], ◌∷◌}
use mathlib.Core.Logic.{◌⊎◌, inl, inr, ⊎_elim}
use Prim.Native.Nat.{ℕ, suc, ◌+◌, ◌*◌, ◌≤◌, ◌<◌}
use native.Mathlib.Nat.{div-mul-le_self, lt-div-mul-add, div-eq_of_lt-le, eq-or-lt_of_le}
use native.Mathlib.Nat.{div-lt_iff_lt-mul, le-div_iff_mul-le, mul-le-mul_left}
use native.Mathlib.Omega.{arith}
use lib.IntN.{ℤ, pos, negsuc, neg_ℤ, nat_abs, neg_ℤ-neg_ℤ, ◌-ℤ◌, ◌*ℤ◌, zero-*ℤ}
use Rattle.whole.specs.Order.{◌≤ᶻ◌}
use Rattle.whole.specs.Nearest.{Nearest, nearest, half_up}
use Rattle.whole.proofs.Diff.{Diff, ints, int, abs_cases}
use Rattle.whole.proofs.Laws.{abs_neg, abs_mul, sub_self, neg_anti, ≤ᶻ-trans}
use Rattle.whole.proofs.Ring.{ring, exps}

-- ---- it has the property
half_up_lem : (n d : ℕ) → 0 < d → Nearest (pos n) d (pos (half_up n d))
half_up_lem n d h = go (half_up n d) (div-mul-le_self (2 * n + d) (2 * d))
    (lt-div-mul-add {a = 2 * n + d} {b = 2 * d} (omega arith))
  where
    go : (k : ℕ) → k * (2 * d) ≤ 2 * n + d → 2 * n + d < k * (2 * d) + 2 * d
        → Nearest (pos n) d (pos k)
    go k lo hi =
        let x : Diff (pos n -ℤ pos k *ℤ pos d) = search ints in
        let c = abs_cases _ x in
        record {
          close = ⊎_elim (λ w. omega arith) (λ w. omega arith) c;
          away = λ e. ⊎_elim (λ w. omega arith) (λ w. omega arith) c;
        }

turned : (z q : ℤ) (d : ℕ) → neg_ℤ z -ℤ neg_ℤ q *ℤ pos d ≡ neg_ℤ (z -ℤ q *ℤ pos d)
turned z q d = ring (z ∷ q ∷ pos d ∷ []) (λ v. search exps) tt

property_neg : {z : ℤ} {d : ℕ} {q : ℤ} → Nearest z d q → Nearest (neg_ℤ z) d (neg_ℤ q)
property_neg {z} {d} {q} h =
    record { close = rw e h.close; away = rw (e, abs_neg z, abs_neg q) h.away }
  where
    e : nat_abs (neg_ℤ z -ℤ neg_ℤ q *ℤ pos d) ≡ nat_abs (z -ℤ q *ℤ pos d)
    e = ap nat_abs (turned z q d) ∙ abs_neg (z -ℤ q *ℤ pos d)

pub nearest_is : (z : ℤ) (d : ℕ) → 0 < d → Nearest z d (nearest z d)
unfolding nearest
nearest_is (pos n) d h = half_up_lem n d h
nearest_is (negsuc n) d h = property_neg (half_up_lem (suc n) d h)

-- ---- and nothing else has it
-- a is the distance from n to m
not_past : (a n m d : ℕ) → 0 < d → 2 * a ≤ d → (2 * a ≡ d → n ≤ m) → (a + m ≡ n) ⊎ (a + n ≡ m)
    → 2 * n < 2 * m + d
not_past a n m d h b w (inl e) =
    ⊎_elim (λ s. let t = w s in omega arith) (λ s. omega arith) (eq-or-lt_of_le b)
not_past a n m d h b w (inr e) = omega arith

one_half : (n d : ℕ) (q : ℤ) → 0 < d → Nearest (pos n) d q → q ≡ pos (half_up n d)
one_half n d (pos k) h w =
    let x : Diff (pos n -ℤ pos k *ℤ pos d) = search ints in
    go (nat_abs (pos n -ℤ pos k *ℤ pos d)) w.close w.away
    (⊎_elim (λ s. inl (omega arith)) (λ s. inr (omega arith)) (abs_cases _ x))
  where
    go : (a : ℕ) → 2 * a ≤ d → (2 * a ≡ d → n ≤ k * d) → (a + k * d ≡ n) ⊎ (a + n ≡ k * d)
        → pos k ≡ pos (half_up n d)
    go a b u c =
        let lo : k * (2 * d) ≤ 2 * n + d = ⊎_elim (λ s. omega arith) (λ s. omega arith) c in
        let hi : 2 * n + d < (k + 1) * (2 * d) = omega (arith, not_past a n (k * d) d h b u c) in
        ap pos (sym (div-eq_of_lt-le (2 * d) lo hi))
one_half n d (negsuc k) h w =
    let x : Diff (pos n -ℤ negsuc k *ℤ pos d) = search ints in
    let b = w.close in
    absurd (⊎_elim (λ s. omega arith) (λ s. omega arith) (abs_cases _ x))

pub nearest_unique : (z : ℤ) (d : ℕ) (q : ℤ) → 0 < d → Nearest z d q → q ≡ nearest z d
unfolding nearest
nearest_unique (pos n) d q h w = one_half n d q h w
nearest_unique (negsuc n) d q h w =
    sym (neg_ℤ-neg_ℤ q) ∙ ap neg_ℤ (one_half (suc n) d (neg_ℤ q) h (property_neg w))

-- ---- of a negated amount: the negated
pub nearest_neg : (z : ℤ) (d : ℕ) → 0 < d → nearest (neg_ℤ z) d ≡ neg_ℤ (nearest z d)
nearest_neg z d h = sym
    (nearest_unique (neg_ℤ z) d (neg_ℤ (nearest z d)) h (property_neg (nearest_is z d h)))

-- ---- of a whole multiple: that multiple
pub nearest_multiple : (q : ℤ) (d : ℕ) → 0 < d → nearest (q *ℤ pos d) d ≡ q
nearest_multiple q d h =
    sym (nearest_unique (q *ℤ pos d) d q h
    (record {
      close = rw (sub_self (q *ℤ pos d)) (omega arith);
      away = λ e. omega (arith, abs_mul q (pos d));
    }))

pub nearest_zero : (d : ℕ) → 0 < d → nearest (pos 0) d ≡ pos 0
nearest_zero d h = ap (λ (z : ℤ). nearest z d) (sym (zero-*ℤ (pos d))) ∙ nearest_multiple
    (pos 0) d h

-- ---- it rises
half_up_mono : (m n d : ℕ) → 0 < d → m ≤ n → half_up m d ≤ half_up n d
half_up_mono m n d h low =
    (le-div_iff_mul-le {k = 2 * d} (omega arith)).1
    (omega (arith, div-mul-le_self (2 * m + d) (2 * d)))

pub nearest_mono : {y z : ℤ} (d : ℕ) → 0 < d → y ≤ᶻ z → nearest y d ≤ᶻ nearest z d
unfolding nearest
nearest_mono {y = pos m} {z = pos n} d h low = let i = half_up_mono m n d h (omega int) in omega int
nearest_mono {y = pos m} {z = negsuc n} d h low = absurd low.le
nearest_mono {y = negsuc m} {z = pos n} d h low =
    ≤ᶻ-trans {b = pos 0} (neg_anti {a = pos 0} {b = pos (half_up (suc m) d)} (omega int))
    (omega int)
nearest_mono {y = negsuc m} {z = negsuc n} d h low = let i =
    half_up_mono (suc n) (suc m) d h (omega int) in
    neg_anti {a = pos (half_up (suc n) d)} {b = pos (half_up (suc m) d)} (omega int)

-- ---- its size
pub half_up_most : (n d k : ℕ) → 0 < d → n ≤ k * d → half_up n d ≤ k
half_up_most n d k h low =
    omega (
      arith,
      (div-lt_iff_lt-mul {k = 2 * d} {x = 2 * n + d} {y = k + 1} (omega arith)).1
          (omega arith),
    )

-- no rounding makes an amount larger
pub half_up_least : (n d : ℕ) → 0 < d → half_up n d ≤ n
half_up_least n d h = half_up_most n d n h (omega (arith, mul-le-mul_left n h))

pub nearest_size : (z : ℤ) (d : ℕ) → nat_abs (nearest z d) ≡ half_up (nat_abs z) d
unfolding nearest
nearest_size (pos n) d = refl
nearest_size (negsuc n) d = abs_neg (pos (half_up (suc n) d))

-- an amount of at most k units rounds to at most k
pub nearest_most : (z : ℤ) (d k : ℕ) → 0 < d → nat_abs z ≤ k * d → nat_abs (nearest z d) ≤ k
nearest_most z d k h low = rw (nearest_size z d) (half_up_most (nat_abs z) d k h low)
