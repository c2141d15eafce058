-- A power against its chord. With r + s the width of the interval, the chord of x ^ k at r lies
-- above the power, and by no more than r s times half the second derivative at the interval's end.
-- By induction on k, on plain numbers. Assumes nothing.
use Prim.Native.Nat.{ℕ, zero, suc, ◌+◌, ◌*◌, ◌^◌, ◌≤◌}
use native.Mathlib.Nat.{mul-add, add-mul, mul_assoc, mul_comm, mul_left_comm, add_assoc, add_comm}
use native.Mathlib.Nat.{add_left_comm, le_trans, mul-le-mul_left, mul-le-mul_right, pow-le-pow_left}
use native.Mathlib.Nat.{le-add_right, pow-zero, pow-succ'}
use native.Mathlib.Omega.{arith}

-- products multiplied out and sorted, where there are too many for `omega` to do it
pub ruleset products =
    (mul-add, add-mul, mul_assoc, mul_comm, mul_left_comm, add_assoc, add_comm, add_left_comm)

-- k A ^ (k - 1), the slope of x ^ k at A
unfoldable pub slope : ℕ → ℕ → ℕ
slope A zero = 0
slope A (suc k) = A * slope A k + A ^ k

-- k (k - 1) / 2 A ^ (k - 2), half its second derivative
unfoldable pub curve : ℕ → ℕ → ℕ
curve A zero = 0
curve A (suc k) = A * curve A k + slope A k

-- ---- over an interval of h up to A a power rises by at most h times the slope at A
rise_step : (A x h p q l a : ℕ) → x + h ≤ A → p ≤ a → q ≤ p + h * l
    → (x + h) * q ≤ x * p + h * (A * l + a)
rise_step A x h p q l a f pa i =
    let one : (x + h) * q ≤ (x + h) * (p + h * l) = mul-le-mul_left (x + h) i in
    let two : (x + h) * (h * l) ≤ A * (h * l) = mul-le-mul_right (h * l) f in
    let three : h * p ≤ h * a = mul-le-mul_left h pa in
    omega arith

rise : (A x h : ℕ) → x + h ≤ A → (k : ℕ) → (x + h) ^ k ≤ x ^ k + h * slope A k
unfolding slope
rise A x h f zero = rw (pow-zero, pow-zero) (omega arith)
rise A x h f (suc k) =
    rw (pow-succ' (x + h) k, pow-succ' x k)
    (rise_step A x h (x ^ k) ((x + h) ^ k) (slope A k) (A ^ k) f
    (pow-le-pow_left (le_trans (le-add_right x h) f) k) (rise A x h f k))

-- ---- the chord lies above
above_step : (x r s p q u : ℕ) → p ≤ u → (r + s) * q ≤ s * p + r * u
    → (r + s) * ((x + r) * q) ≤ s * (x * p) + r * ((x + (r + s)) * u)
above_step x r s p q u pu i =
    let one : (x + r) * ((r + s) * q) ≤ (x + r) * (s * p + r * u) = mul-le-mul_left (x + r) i in
    let two : r * s * p ≤ r * s * u = mul-le-mul_left (r * s) pu in
    omega arith

pub above : (x r s k : ℕ) → (r + s) * (x + r) ^ k ≤ s * x ^ k + r * (x + (r + s)) ^ k
above x r s zero = rw (pow-zero, pow-zero, pow-zero) (omega arith)
above x r s (suc k) =
    rw (pow-succ' (x + r) k, pow-succ' x k, pow-succ' (x + (r + s)) k)
    (above_step x r s (x ^ k) ((x + r) ^ k) ((x + (r + s)) ^ k)
    (pow-le-pow_left (le-add_right x (r + s)) k) (above x r s k))

-- ---- and by no more than the curve
below_step : (A x r s p q u l b : ℕ) → x + (r + s) ≤ A → u ≤ p + (r + s) * l
    → s * p + r * u ≤ (r + s) * q + (r + s) * r * s * b
    → s * (x * p) + r * ((x + (r + s)) * u) ≤ (r + s) * ((x + r) * q) + (r + s) * r * s *
    (A * b + l)
below_step A x r s p q u l b f ul i =
    let one : (x + r) * (s * p + r * u) ≤ (x + r) * ((r + s) * q + (r + s) * r * s * b) =
    mul-le-mul_left (x + r) i in
    let two : r * s * u ≤ r * s * (p + (r + s) * l) = mul-le-mul_left (r * s) ul in
    let g : x + r ≤ A = omega arith in
    let three : (x + r) * ((r + s) * r * s * b) ≤ A * ((r + s) * r * s * b) =
    mul-le-mul_right ((r + s) * r * s * b) g in
    simp products (omega
    (arith, simp products at one, simp products at two, simp products at three))

pub below : (A x r s : ℕ) → x + (r + s) ≤ A → (k : ℕ)
    → s * x ^ k + r * (x + (r + s)) ^ k ≤ (r + s) * (x + r) ^ k + (r + s) * r * s * curve A k
unfolding curve
below A x r s f zero = rw (pow-zero, pow-zero, pow-zero) (omega arith)
below A x r s f (suc k) =
    rw (pow-succ' (x + r) k, pow-succ' x k, pow-succ' (x + (r + s)) k)
    (below_step A x r s (x ^ k) ((x + r) ^ k) ((x + (r + s)) ^ k) (slope A k) (curve A k) f
    (rise A x (r + s) f k) (below A x r s f k))
