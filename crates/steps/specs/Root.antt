-- docs/RULES.md, "Precision number": its root "digit by digit, as trainees are taught". A number is
-- set off in pairs of digits. From the left, each pair is brought down after the remainder; it
-- gives the next digit of the root, and what that digit leaves is the next remainder.
use Rattle.std.specs.Prelude.{cond, ℕ, zero, suc, ◌+◌, ◌-◌, ◌*◌, ◌/◌, ◌%◌, ◌≤◌, ◌<◌, leb}
use Rattle.steps.specs.declared.root.Working.{Working}

-- a number whose root is taken is S squared over 100 or more, so it has at most nine pairs
abbrev pub pairs : ℕ
pairs = 9

-- r is the whole root of x: its square is at most x, and the square of the next number is above x.
-- Every method of finding it meets this.
abbrev pub WholeRoot : ℕ → ℕ → Type 0
WholeRoot x r = (r * r ≤ x) × (x < (r + 1) * (r + 1))

-- what a digit d takes away: the trial divisor, which is 20 times the root so far, and d; times d
abbrev pub takes : ℕ → ℕ → ℕ
takes root d = (20 * root + d) * d

-- a digit fits where it takes away at most m, the remainder with its new pair; none above d does
pub record NoneAbove (root m d : ℕ) : Type 0 where
  pub figure : d ≤ 9
  pub above : (e : ℕ) → e ≤ 9 → takes root e ≤ m → e ≤ d

-- d is the next digit: the largest that fits
pub record NextDigit (root m d : ℕ) : Type 0 where
  pub fits : takes root d ≤ m
  pub largest : NoneAbove root m d

-- the digit that this names: of the digits from d downwards, the first that fits
unfoldable pub digit_to : ℕ → ℕ → ℕ → ℕ
digit_to zero root m = 0
digit_to (suc d) root m = cond (leb (takes root (suc d)) m) (suc d) (digit_to d root m)

abbrev pub digit : ℕ → ℕ → ℕ
digit root m = digit_to 9 root m

-- one pair is brought down: its digit is written after the root, and what that takes away comes off
unfoldable pub with_pair : Working → ℕ → Working
with_pair w pair =
    let m = 100 * w.remainder + pair in
    let d = digit w.root m in
    record { root = 10 * w.root + d; remainder = m - takes w.root d }

-- the working of a number of k pairs, from the left: of the pairs before the last, then of the last
unfoldable pub worked : ℕ → ℕ → Working
worked zero x = record { root = 0; remainder = 0 }
worked (suc k) x = with_pair (worked k (x / 100)) (x % 100)
