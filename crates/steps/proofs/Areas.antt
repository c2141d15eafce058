-- The sum round the stations: the tests of the offsets, the size of a cross product and of the sum,
-- and the sum as the loop builds it.
use mathlib.Core.Path.{◌≡◌, refl, sym, ◌∙◌, ap}
use mathlib.Core.Bool.{Bool, true, false, ◌&&◌}
use mathlib.Core.List.{List, [], ◌∷◌}
use Prim.Native.Nat.{ℕ, zero, suc, ◌+◌, ◌*◌, ◌/◌, ◌%◌, ◌≤◌, ◌<◌}
use native.Mathlib.Nat.{le_of_suc-le-suc, not-suc-le-zero, mod-lt, mod_self, mod-eq_of_lt}
use native.Mathlib.Numerals.{add-one}
use native.Mathlib.Omega.{arith}
use borrow.Author.Tests.{leb-true}
use lib.Dec.{leb}
use lib.ListN.{length, get_or}
use lib.IntN.{ℤ, pos, nat_abs, ◌+ℤ◌, ◌-ℤ◌, ◌*ℤ◌}
use Rattle.std.specs.List.{list_all}
use Rattle.whole.proofs.Laws.{abs_mul, triangle_sub}
use Rattle.whole.proofs.Sums.{sum_to_size}
use Rattle.whole.specs.Sum.{sum_to}
use Rattle.steps.specs.Area.{northing, easting, stations, cross, next_station, doubled_to}
use Rattle.steps.specs.Area.{doubled, good_offsets}
use Rattle.steps.proofs.Laws.{product_most}

-- ---- the test of the offsets
abbrev pub small : ℤ → Bool
small z = leb (nat_abs z) 130000000

pub all_good : (l : List ℤ) → list_all small l ≡ good_offsets l
unfolding good_offsets
all_good [] = refl
all_good (z ∷ l) = ap (λ (b : Bool). small z && b) (all_good l)

and_true : (a b : Bool) → (a && b) ≡ true → (a ≡ true) × (b ≡ true)
and_true true b e = (refl, e)
and_true false b e = absurd (let z : ◌≡◌ {A = ℕ} 0 1 = cc in omega arith)

pub small_at : (l : List ℤ) (i : ℕ) → good_offsets l ≡ true → i < length l
    → nat_abs (get_or l i (pos 0)) ≤ 130000000
unfolding good_offsets
small_at [] i e h = absurd (not-suc-le-zero h)
small_at (z ∷ l) zero e h =
    leb-true (nat_abs z) 130000000 (and_true (leb (nat_abs z) 130000000) (good_offsets l) e).0
small_at (z ∷ l) (suc i) e h =
    small_at l i (and_true (leb (nat_abs z) 130000000) (good_offsets l) e).1 (le_of_suc-le-suc h)

-- ---- the size of a cross product
pub cross_size : (n : ℕ) (p q a b c d : ℤ) → n ≤ nat_abs p + nat_abs q → p ≡ a *ℤ b → q ≡ c *ℤ d
    → nat_abs a ≤ 130000000 → nat_abs b ≤ 130000000 → nat_abs c ≤ 130000000 → nat_abs d ≤ 130000000
    → n ≤ 33800000000000000
cross_size n p q a b c d h f g s t u v =
    omega (
      arith,
      ap nat_abs f ∙ abs_mul a b,
      ap nat_abs g ∙ abs_mul c d,
      product_most (nat_abs a) (nat_abs b) 130000000 130000000 s t,
      product_most (nat_abs c) (nat_abs d) 130000000 130000000 u v,
    )

module _ (l : List ℤ) (e : good_offsets l ≡ true) where
  cross_most : (i j : ℕ) → i < stations l → j < stations l
      → nat_abs (cross l i j) ≤ 33800000000000000
  unfolding cross
  cross_most i j h k =
      let p = northing l i *ℤ easting l j in
      let q = northing l j *ℤ easting l i in
      cross_size (nat_abs (p -ℤ q)) p q (northing l i) (easting l j) (northing l j) (easting l i)
      (triangle_sub p q) refl refl
      (small_at l (2 * i) e (omega arith)) (small_at l (2 * j + 1) e (omega arith))
      (small_at l (2 * j) e (omega arith)) (small_at l (2 * i + 1) e (omega arith))

  -- and of the whole sum
  pub doubled_most : nat_abs (doubled l) ≤ stations l * 33800000000000000
  unfolding doubled_to next_station
  doubled_most =
      sum_to_size (λ (i : ℕ). cross l i (next_station l i)) (stations l) 33800000000000000
      (λ i h. cross_most i (next_station l i) h (mod-lt (i + 1) (omega arith)))

-- ---- the station after i, in code
pub next_first : (i n : ℕ) → i + 1 ≡ n → 0 ≡ (i + 1) % n
next_first i n e = rw e (sym (mod_self n))

pub next_on : (i n : ℕ) → i < n → (i + 1 ≡ n → ⊥) → i + 1 ≡ (i + 1) % n
next_on i n h e = sym (mod-eq_of_lt (omega arith))

-- ---- the sum so far
pub round_next : (l : List ℤ) (i n j : ℕ) (sum z r : ℤ) → r ≡ sum +ℤ z → z ≡ cross l i j
    → j ≡ (i + 1) % n → sum ≡ doubled_to l i → 2 * n ≡ length l → r ≡ doubled_to l (i + 1)
unfolding doubled_to sum_to next_station
round_next l i n j sum z r e f m g h =
    let k : n ≡ length l / 2 = omega arith in
    e ∙ rw (add-one i, g, f, m, k)

pub round_last : (l : List ℤ) (i n : ℕ) (sum : ℤ) → sum ≡ doubled_to l i → i ≤ n → n ≤ i
    → 2 * n ≡ length l → sum ≡ doubled l
round_last l i n sum e h k f = let g : i ≡ length l / 2 = omega arith in e ∙ ap (doubled_to l) g
