-- A series against its chord over one minute. The terms that are added and those that are taken
-- away each lie below their chord by at most eleven units of the ninth decimal, and err the same
-- way: so the series is off its chord by at most eleven.
use mathlib.Core.Path.{◌≡◌, refl}
use mathlib.Core.List.{List, [], ◌∷◌}
use Prim.Native.Nat.{ℕ, ◌+◌, ◌-◌, ◌*◌, ◌^◌, ◌≤◌}
use native.Mathlib.Nat.{mul_comm, mul-le-mul_left, mul-le-mul_right}
use native.Mathlib.Decide.{dec_le}
use native.Mathlib.Omega.{arith}
use lib.Dec.{lit≤}
use lib.IntN.{pos, nat_abs, ◌+ℤ◌, ◌-ℤ◌, ◌*ℤ◌}
use Rattle.whole.proofs.Diff.{abs_under}
use Rattle.whole.proofs.Ring.{ring, exps, reads, diff}
use Rattle.minutes.specs.Exact.{weight, series, sine_powers, cosine_powers, unity, straight, pi}
use Rattle.minutes.specs.Exact.{factorial}
use Rattle.sines.proofs.Chord.{products, slope, curve, above, below}

-- ---- the powers whose terms are added: the first, the third, ..; those of the rest without its
-- first are taken away
abbrev pub added : List ℕ → List ℕ
added [] = []
added (k ∷ []) = k ∷ []
added (k ∷ l ∷ ks) = k ∷ added ks

abbrev pub taken : List ℕ → List ℕ
taken [] = []
taken (k ∷ ks) = added ks

unfoldable terms : List ℕ → ℕ → ℕ
terms [] a = 0
terms (k ∷ ks) a = weight k * a ^ k + terms ks a

first_added : (k : ℕ) (ks : List ℕ) (a : ℕ)
    → terms (added (k ∷ ks)) a ≡ weight k * a ^ k + terms (taken ks) a
unfolding terms
first_added k [] a = refl
first_added k (l ∷ ks) a = refl

split : (ks : List ℕ) (a : ℕ) → series ks a ≡ pos (terms (added ks) a) -ℤ pos (terms (taken ks) a)
unfolding series terms
split [] a = refl
split (k ∷ ks) a =
    rw (split ks a, first_added k ks a)
    (ring (pos (weight k * a ^ k) ∷ pos (terms (added ks) a) ∷ pos (terms (taken ks) a) ∷ [])
    (λ v. search exps) tt)

-- ---- sums of weighted powers keep to what each power keeps to
terms_above : (ks : List ℕ) (x r s : ℕ)
    → (r + s) * terms ks (x + r) ≤ s * terms ks x + r * terms ks (x + (r + s))
unfolding terms
terms_above [] x r s = omega arith
terms_above (k ∷ ks) x r s =
    sum (weight k) (x ^ k) ((x + r) ^ k) ((x + (r + s)) ^ k) (terms ks x) (terms ks (x + r))
    (terms ks (x + (r + s))) (above x r s k) (terms_above ks x r s)
  where
    sum : (w p q u P Q U : ℕ) → (r + s) * q ≤ s * p + r * u → (r + s) * Q ≤ s * P + r * U
        → (r + s) * (w * q + Q) ≤ s * (w * p + P) + r * (w * u + U)
    sum w p q u P Q U i j =
        let one : w * ((r + s) * q) ≤ w * (s * p + r * u) = mul-le-mul_left w i in
        omega arith

unfoldable curves : List ℕ → ℕ → ℕ
curves [] A = 0
curves (k ∷ ks) A = weight k * curve A k + curves ks A

terms_below : (A : ℕ) (ks : List ℕ) (x r s : ℕ) → x + (r + s) ≤ A
    → s * terms ks x + r * terms ks (x + (r + s)) ≤ (r + s) * terms ks (x + r) +
    (r + s) * r * s * curves ks A
unfolding terms curves
terms_below A [] x r s f = omega arith
terms_below A (k ∷ ks) x r s f =
    sum (weight k) (x ^ k) ((x + r) ^ k) ((x + (r + s)) ^ k) (curve A k) (terms ks x)
    (terms ks (x + r)) (terms ks (x + (r + s))) (curves ks A) (below A x r s f k)
    (terms_below A ks x r s f)
  where
    sum : (w p q u b P Q U B : ℕ) → s * p + r * u ≤ (r + s) * q + (r + s) * r * s * b
        → s * P + r * U ≤ (r + s) * Q + (r + s) * r * s * B
        → s * (w * p + P) + r * (w * u + U) ≤ (r + s) * (w * q + Q) + (r + s) * r * s * (w * b + B)
    sum w p q u b P Q U B i j =
        let one : w * (s * p + r * u) ≤ w * ((r + s) * q + (r + s) * r * s * b) =
        mul-le-mul_left w i in
        simp products (omega (arith, simp products at one, simp products at j))

-- ---- one minute: r s is at most 300 squared
square : (r d : ℕ) → r * (r + d + d) ≤ (r + d) * (r + d)
square r d = omega arith

in_minute : (r s : ℕ) → r + s ≡ 600 → r * s ≤ 90000
in_minute r s e =
    elim (dec_le r 300) [
      | yes h ↦ half r (300 - r) s (omega arith) (omega arith)
      | no h ↦ rw (mul_comm r s) (half s (300 - s) r (omega arith) (omega arith))
    ]
  where
    half : (r d s : ℕ) → r + d ≡ 300 → s ≡ 300 + d → r * s ≤ 90000
    half r d s e f = rw f (rw e at (square r d))

-- ---- what antt computes: the terms listed bend by at most eleven units over a minute, up to 45
-- degrees
abbrev Flat : List ℕ → Type 0
Flat ks = 1000000000 * (90000 * curves ks 1620000) ≤ 11 * unity

-- a series whose added and taken terms are both so flat
pub record Gentle (ks : List ℕ) : Type 0 where
  adding : Flat (added ks)
  taking : Flat (taken ks)

pub sine_gentle : Gentle sine_powers
unfolding curves curve slope weight unity straight pi factorial
sine_gentle = record { adding = lit≤ tt; taking = lit≤ tt }

pub cosine_gentle : Gentle cosine_powers
unfolding curves curve slope weight unity straight pi factorial
cosine_gentle = record { adding = lit≤ tt; taking = lit≤ tt }

-- ---- the chord over a minute, in units of the ninth decimal and six hundred times
record Chorded (ks : List ℕ) (x r s : ℕ) : Type 0 where
  high : 1000000000 * (600 * terms ks (x + r)) ≤ 1000000000 *
      (s * terms ks x + r * terms ks (x + 600))
  low : 1000000000 * (s * terms ks x + r * terms ks (x + 600)) ≤ 1000000000 *
      (600 * terms ks (x + r)) + 6600 * unity

chorded : (ks : List ℕ) (x r s : ℕ) → r + s ≡ 600 → x + 600 ≤ 1620000 → Flat ks → Chorded ks x r s
chorded ks x r s e h flat =
    let B = curves ks 1620000 in
    let up : 600 * terms ks (x + r) ≤ s * terms ks x + r * terms ks (x + 600) =
    rw e at (terms_above ks x r s) in
    let down : s * terms ks x + r * terms ks (x + 600) ≤ 600 * terms ks (x + r) + 600 * r * s * B =
    rw e at (terms_below 1620000 ks x r s (rw e h)) in
    let bend : r * s * B ≤ 90000 * B = mul-le-mul_right B (in_minute r s e) in
    record {
      high = mul-le-mul_left 1000000000 up;
      low = omega arith;
    }

pub minute_chord : (ks : List ℕ) (x r s : ℕ) → r + s ≡ 600 → x + 600 ≤ 1620000 → Gentle ks
    → nat_abs (pos 1000000000 *ℤ
    (pos s *ℤ series ks x +ℤ pos r *ℤ series ks (x + 600) -ℤ pos 600 *ℤ series ks (x + r))) ≤ 6600 *
    unity
minute_chord ks x r s e h g =
    rw (split ks x, split ks (x + 600), split ks (x + r))
    (off (terms (added ks) x) (terms (taken ks) x) (terms (added ks) (x + 600))
    (terms (taken ks) (x + 600)) (terms (added ks) (x + r)) (terms (taken ks) (x + r))
    (chorded (added ks) x r s e h g.adding).high (chorded (added ks) x r s e h g.adding).low
    (chorded (taken ks) x r s e h g.taking).high
    (chorded (taken ks) x r s e h g.taking).low)
  where
    off : (p m p₁ m₁ q n : ℕ)
        → 1000000000 * (600 * q) ≤ 1000000000 * (s * p + r * p₁)
        → 1000000000 * (s * p + r * p₁) ≤ 1000000000 * (600 * q) + 6600 * unity
        → 1000000000 * (600 * n) ≤ 1000000000 * (s * m + r * m₁)
        → 1000000000 * (s * m + r * m₁) ≤ 1000000000 * (600 * n) + 6600 * unity
        → nat_abs (pos 1000000000 *ℤ
        (pos s *ℤ (pos p -ℤ pos m) +ℤ pos r *ℤ (pos p₁ -ℤ pos m₁) -ℤ pos 600 *ℤ (pos q -ℤ pos n))) ≤
        6600 * unity
    off p m p₁ m₁ q n a b c d =
        let ρ = pos s ∷ pos r ∷ pos p ∷ pos m ∷ pos p₁ ∷ pos m₁ ∷ pos q ∷ pos n ∷ [] in
        let v = reads ρ in
        abs_under (pos 1000000000 *ℤ
        (pos s *ℤ (pos p -ℤ pos m) +ℤ pos r *ℤ (pos p₁ -ℤ pos m₁) -ℤ pos 600 *ℤ (pos q -ℤ pos n)))
        (diff ρ (search exps depth 20)) (omega arith)
