-- Every sine by the table is within twelve units of the ninth decimal of the exact one, and so
-- within the twenty that are promised. Six hundred times the error is made of four parts: the
-- rounding of the interpolation, the two entries' own errors by their weights, and the chord's.
use mathlib.Core.Path.{◌≡◌, refl, ap, subst}
use mathlib.Core.List.{[], ◌∷◌}
use Prim.Native.Nat.{ℕ, ◌+◌, ◌-◌, ◌*◌, ◌/◌, ◌%◌, ◌≤◌, ◌<◌}
use native.Mathlib.Nat.{mul-le-mul_left, mod-lt}
use native.Mathlib.Decide.{dec_le, dec_lt, ℕ_discrete}
use native.Mathlib.Omega.{arith}
use borrow.Author.Tests.{le-leb, lt-leb}
use lib.Dec.{lit≤, lit<}
use lib.IntN.{ℤ, pos, neg_ℤ, nat_abs, ◌+ℤ◌, ◌-ℤ◌, ◌*ℤ◌, +ℤ_comm}
use Rattle.whole.specs.Nearest.{nearest}
use Rattle.whole.proofs.Laws.{abs_neg, abs_sub, abs_mul, triangle, triangle_sub}
use Rattle.whole.proofs.Ring.{ring, exps}
use Rattle.whole.proofs.Rounding.{nearest_is}
use Rattle.minutes.specs.Entry.{entry}
use Rattle.minutes.specs.Exact.{unity, straight, pi, factorial, weight, series, sine_powers}
use Rattle.minutes.specs.Exact.{cosine_powers, by_series, exact_quarter, exact_sine, exact_cosine}
use Rattle.minutes.specs.Exact.{Within}
use Rattle.minutes.specs.Quadrant.{circle, folded, signed_by, around, quarter_ahead}
use Rattle.sines.specs.Sine.{between, quarter_by, sine_by, cosine_by, units}
use Rattle.sines.proofs.Line.{at_minute}
use Rattle.sines.proofs.Quadrants.{first, folded_most, around_up, around_down}
use Rattle.sines.proofs.Series.{sine_gentle, cosine_gentle, minute_chord}

-- e is within half a unit of x / unity
Half : ℤ → ℤ → Type 0
Half e x = 2 * nat_abs (pos 1000000000 *ℤ x -ℤ e *ℤ pos unity) ≤ unity

-- v is within half a unit of the chord from e to f
Chord : ℤ → ℤ → ℕ → ℕ → ℤ → Type 0
Chord e f r s v = 2 * nat_abs (pos s *ℤ e +ℤ pos r *ℤ f -ℤ pos 600 *ℤ v) ≤ 600

-- ---- the four parts
parts : (w n r s : ℕ) (e f v x x₀ x₁ : ℤ)
    → pos 600 *ℤ (v *ℤ pos w -ℤ pos n *ℤ x)
    ≡ (pos n *ℤ (pos s *ℤ x₀ +ℤ pos r *ℤ x₁ -ℤ pos 600 *ℤ x) -ℤ pos w *ℤ
    (pos s *ℤ e +ℤ pos r *ℤ f -ℤ pos 600 *ℤ v))
    -ℤ (pos s *ℤ (pos n *ℤ x₀ -ℤ e *ℤ pos w) +ℤ pos r *ℤ (pos n *ℤ x₁ -ℤ f *ℤ pos w))
parts w n r s e f v x x₀ x₁ =
    ring (pos w ∷ pos n ∷ pos r ∷ pos s ∷ e ∷ f ∷ v ∷ x ∷ x₀ ∷ x₁ ∷ [])
    (λ u. search exps depth 20) tt

-- a size taken n times
times : (n : ℕ) (x : ℤ) → nat_abs (pos n *ℤ x) ≡ n * nat_abs x
times n x = abs_mul (pos n) x

minute : (r s : ℕ) (e f v x x₀ x₁ : ℤ) → r + s ≡ 600 → Half e x₀ → Half f x₁ → Chord e f r s v
    → nat_abs (pos 1000000000 *ℤ (pos s *ℤ x₀ +ℤ pos r *ℤ x₁ -ℤ pos 600 *ℤ x)) ≤ 6600 * unity
    → Within 12 v x
unfolding Half Chord
minute r s e f v x x₀ x₁ rs he hf hv hc =
    let a = pos 1000000000 *ℤ (pos s *ℤ x₀ +ℤ pos r *ℤ x₁ -ℤ pos 600 *ℤ x) in
    let b = pos s *ℤ e +ℤ pos r *ℤ f -ℤ pos 600 *ℤ v in
    let c = pos 1000000000 *ℤ x₀ -ℤ e *ℤ pos unity in
    let d = pos 1000000000 *ℤ x₁ -ℤ f *ℤ pos unity in
    sum (nat_abs (v *ℤ pos unity -ℤ pos 1000000000 *ℤ x)) (nat_abs a) (nat_abs b) (nat_abs c)
    (nat_abs d)
    (omega (
      arith,
      ap nat_abs (parts unity 1000000000 r s e f v x x₀ x₁),
      times 600 (v *ℤ pos unity -ℤ pos 1000000000 *ℤ x),
      triangle_sub (a -ℤ pos unity *ℤ b) (pos s *ℤ c +ℤ pos r *ℤ d),
      triangle_sub a (pos unity *ℤ b),
      triangle (pos s *ℤ c) (pos r *ℤ d),
      times unity b,
      times s c,
      times r d,
    ))
    hc (mul-le-mul_left unity hv) (mul-le-mul_left s he) (mul-le-mul_left r hf)
    (ap (λ (n : ℕ). n * unity) rs)
  where
    -- the parts' sizes: 6600 units, half of 600, and half of s and of r
    sum : (y a b c d : ℕ) → 600 * y ≤ a + unity * b + (s * c + r * d) → a ≤ 6600 * unity
        → unity * (2 * b) ≤ unity * 600 → s * (2 * c) ≤ s * unity → r * (2 * d) ≤ r * unity
        → (r + s) * unity ≡ 600 * unity → y ≤ 12 * unity
    sum y a b c d h i j k l m = omega arith

-- ---- the interpolation is the chord, rounded
chord : (e f : ℤ) (r s : ℕ) → r + s ≡ 600 → Chord e f r s (between e f r)
unfolding Chord between
chord e f r s rs = rw (line e f (nearest ((f -ℤ e) *ℤ pos r) 600) 600 rs)
    (nearest_is ((f -ℤ e) *ℤ pos r) 600 (omega arith)).close
  where
    line : (e f q : ℤ) (n : ℕ) → r + s ≡ n
        → pos s *ℤ e +ℤ pos r *ℤ f -ℤ pos n *ℤ (e +ℤ q) ≡ (f -ℤ e) *ℤ pos r -ℤ q *ℤ pos n
    line e f q n h = rw (← h) (ring (pos r ∷ pos s ∷ e ∷ f ∷ q ∷ []) (λ u. search exps depth 20) tt)

swapped : (e f v : ℤ) (r s : ℕ) → Chord e f r s v → Chord f e s r v
unfolding Chord
swapped e f v r s c = rw (+ℤ_comm (pos r *ℤ f) (pos s *ℤ e)) c

-- ---- which series an angle of the first quadrant has
by_sine : (a : ℕ) → a ≤ 1620000 → exact_quarter a ≡ series sine_powers a
unfolding exact_quarter by_series
by_sine a h = rw (le-leb a 1620000 h)

by_cosine : (a y : ℕ) → 1620000 < a → 3240000 - a ≡ y → exact_quarter a ≡ series cosine_powers y
unfolding exact_quarter by_series
by_cosine a y h e = rw (lt-leb a 1620000 h, e)

pub unity_positive : 0 < unity
unfolding unity straight factorial
unity_positive = lit< tt

-- ---- an entry is within half a unit of the exact sine of its minute, by the series of its side;
-- at 45 degrees by both
entry_half : (m : ℕ) → m ≤ 5400 → Half (entry m) (exact_quarter (600 * m))
unfolding Half entry exact_sine
entry_half m h =
    rw (around_up exact_quarter (600 * m) (omega arith), ← first (600 * m) (omega arith))
    (nearest_is (pos 1000000000 *ℤ exact_quarter (600 * m)) unity unity_positive).close

low_entry : (m : ℕ) → m ≤ 2700 → Half (entry m) (series sine_powers (600 * m))
low_entry m h = rw (by_sine (600 * m) (omega arith)) at (entry_half m (omega arith))

middle_entry : Half (entry 2700) (series cosine_powers 1620000)
unfolding Half entry nearest exact_sine around signed_by folded exact_quarter by_series series
    weight
    unity straight pi factorial
middle_entry = lit≤ tt

high_entry : (m y : ℕ) → 2700 ≤ m → m ≤ 5400 → 3240000 - 600 * m ≡ y
    → Half (entry m) (series cosine_powers y)
high_entry m y h k e =
    elim (ℕ_discrete 2700 m) [
      | yes i ↦ subst (λ (n : ℕ). Half (entry m) (series cosine_powers n)) (omega arith)
          (subst (λ (n : ℕ). Half (entry n) (series cosine_powers 1620000)) i middle_entry)
      | no i ↦ rw (by_cosine (600 * m) y (omega arith) e) at (entry_half m k)
    ]

-- ---- an angle r tenths past minute m, by the series of its side
low_near : (m r : ℕ) → m < 2700 → r < 600
    → Within 12 (between (entry m) (entry (m + 1)) r) (exact_quarter (600 * m + r))
low_near m r h k =
    let next : 600 * (m + 1) ≡ 600 * m + 600 = omega arith in
    rw (by_sine (600 * m + r) (omega arith))
    (minute r (600 - r) (entry m) (entry (m + 1)) (between (entry m) (entry (m + 1)) r)
    (series sine_powers (600 * m + r)) (series sine_powers (600 * m))
    (series sine_powers (600 * m + 600))
    (omega arith) (low_entry m (omega arith)) (rw next at (low_entry (m + 1) (omega arith)))
    (chord (entry m) (entry (m + 1)) r (600 - r) (omega arith))
    (minute_chord sine_powers (600 * m) r (600 - r) (omega arith) (omega arith) sine_gentle))

-- the complement runs the other way: it is 600 - r tenths past the complement y of the next minute
high_near : (m r y : ℕ) → 2700 ≤ m → m < 5400 → 0 < r → r < 600 → 3240000 - 600 * (m + 1) ≡ y
    → Within 12 (between (entry m) (entry (m + 1)) r) (exact_quarter (600 * m + r))
high_near m r y h k l n e =
    rw (by_cosine (600 * m + r) (y + (600 - r)) (omega arith) (omega arith))
    (minute (600 - r) r (entry (m + 1)) (entry m) (between (entry m) (entry (m + 1)) r)
    (series cosine_powers (y + (600 - r))) (series cosine_powers y) (series cosine_powers (y + 600))
    (omega arith) (high_entry (m + 1) y (omega arith) (omega arith) e)
    (high_entry m (y + 600) h (omega arith) (omega arith))
    (swapped (entry m) (entry (m + 1)) (between (entry m) (entry (m + 1)) r) r (600 - r)
    (chord (entry m) (entry (m + 1)) r (600 - r) (omega arith)))
    (minute_chord cosine_powers y (600 - r) r (omega arith) (omega arith) cosine_gentle))

-- at a whole minute the sine is the entry
on_minute : (m : ℕ) → m ≤ 5400 → Within 12 (entry m) (exact_quarter (600 * m))
unfolding Half
on_minute m h = omega (
  arith,
  entry_half m h,
  abs_sub (entry m *ℤ pos unity) (pos 1000000000 *ℤ exact_quarter (600 * m)),
)

-- ---- the first quadrant
quarter_near : (a : ℕ) → a ≤ 3240000 → Within 12 (quarter_by entry a) (exact_quarter a)
unfolding quarter_by
quarter_near a h =
    let m = a / 600 in
    let r = a % 600 in
    let here : 600 * m + r ≡ a = omega arith in
    elim (ℕ_discrete r 0) [
      | yes e ↦
          let there : 600 * m ≡ a = omega arith in
          rw (e, at_minute (entry m) (entry (m + 1))) (rw there at (on_minute m (omega arith)))
      | no e ↦ elim (dec_lt m 2700) [
        | yes l ↦ rw here at (low_near m r l (omega arith))
        | no l ↦ rw here at (high_near m r (3240000 - 600 * (m + 1)) (omega arith) (omega arith)
            (omega arith) (omega arith) refl)
      ]
    ]

-- ---- all four
pub sine_twelve : (a : ℕ) → a < circle → Within 12 (sine_by entry a) (exact_sine a)
unfolding sine_by exact_sine
sine_twelve a h =
    let near = quarter_near (folded a) (folded_most a h) in
    elim (dec_le a 6480000) [
      | yes i ↦ rw (around_up (quarter_by entry) a i, around_up exact_quarter a i) near
      | no i ↦
          rw (
            around_down (quarter_by entry) a (omega arith),
            around_down exact_quarter a (omega arith),
          )
          (turned_near (quarter_by entry (folded a)) (exact_quarter (folded a)) near)
    ]
  where
    turned_near : (v x : ℤ) → Within 12 v x → Within 12 (neg_ℤ v) (neg_ℤ x)
    turned_near v x n = rw (turn v x (pos unity), abs_neg (v *ℤ pos unity -ℤ pos 1000000000 *ℤ x)) n
      where
        turn : (v x u : ℤ) → neg_ℤ v *ℤ u -ℤ pos 1000000000 *ℤ neg_ℤ x ≡ neg_ℤ
            (v *ℤ u -ℤ pos 1000000000 *ℤ x)
        turn v x u = ring (v ∷ x ∷ u ∷ []) (λ w. search exps) tt

-- ---- the bound of docs/RULES.md, "Sines": 20 units
pub sine_near : (a : ℕ) → a < circle → Within units (sine_by entry a) (exact_sine a)
sine_near a h = omega (arith, sine_twelve a h)

pub cosine_near : (a : ℕ) → Within units (cosine_by entry a) (exact_cosine a)
cosine_near a = sine_near (quarter_ahead a) (mod-lt (a + 3240000) (omega arith))
