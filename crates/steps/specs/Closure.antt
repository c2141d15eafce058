-- docs/RULES.md, "Closure and compass rule" and "Precision number": the closure test and the
-- precision number. Closures are in hundredths, S in thousandths of a foot.
use Rattle.std.specs.Prelude.{◌≡◌, Bool, cond, ◌&&◌, ℕ, zero, suc, ◌+◌, ◌*◌, ◌/◌, ◌≤◌, leb, eqb, ℤ}
use Rattle.std.specs.Prelude.{pos, nat_abs}
use Rattle.answer.specs.Told.{ToldStep, in_range, inside, passes}

-- C_N squared + C_E squared
abbrev pub squares : ℤ → ℤ → ℕ
squares north east = nat_abs north * nat_abs north + nat_abs east * nat_abs east

-- "50,000 x 50,000 x (C_N squared + C_E squared)": a closure in hundredths is at most one of 50,000
-- parts of S in thousandths, which is 1 in 5,000
abbrev pub closure_parts : ℕ
closure_parts = 50000

-- "refused (9) exactly when 50,000 x 50,000 x (C_N squared + C_E squared) exceeds S squared"
unfoldable pub closes : ℤ → ℤ → ℕ → Bool
closes north east s = leb (closure_parts * closure_parts * squares north east) (s * s)

-- "P squared x 100 x (C_N squared + C_E squared)": a hundredth of a foot is 10 thousandths, and 100
-- is 10 squared
abbrev pub hundredth_squared : ℕ
hundredth_squared = 100

-- "the largest whole P with P squared x 100 x (C_N squared + C_E squared) at most S squared; 0
-- where both closures are zero"
pub record Precision (north east : ℤ) (s p : ℕ) : Type 0 where
  pub none : squares north east ≡ 0 → p ≡ 0
  pub fits : (squares north east ≡ 0 → ⊥) → p * p * (hundredth_squared * squares north east) ≤ s * s
  pub largest : (squares north east ≡ 0 → ⊥) → (k : ℕ)
      → k * k * (hundredth_squared * squares north east) ≤ s * s
      → k ≤ p

-- the number that this names. The whole root of x, of at most k binary digits: twice the root of a
-- quarter of x, or one more
unfoldable pub root : ℕ → ℕ → ℕ
root zero x = 0
root (suc k) x = let r = 2 * root k (x / 4) in cond (leb ((r + 1) * (r + 1)) x) (r + 1) r

unfoldable pub precision : ℤ → ℤ → ℕ → ℕ
precision north east s =
    cond (eqb (squares north east) 0) 0
    (root 32 (s * s / (hundredth_squared * squares north east)))

-- "S of 1..1,300,000,000": the most that the sum of grid distances comes to
abbrev pub most_sum : ℕ
most_sum = 1300000000

-- "closures of size up to 1,200,000,000 for the test"
abbrev pub most_tested : ℕ
most_tested = 1200000000

-- "26,000 for the number", and for the shares
abbrev pub most_closure : ℕ
most_closure = 26000

-- ---- the steps: "S of 1..1,300,000,000, with closures of size up to 1,200,000,000 for the test
-- and 26,000 for the number"
abbrev pub of_closures : ℕ → ℤ → ℤ → ℕ → ℤ → ToldStep
of_closures most north east s z =
    in_range (leb (nat_abs north) most && leb (nat_abs east) most && inside 1 most_sum s) z

abbrev pub closure_test : ℤ → ℤ → ℕ → ToldStep
closure_test north east s = of_closures most_tested north east s (passes (closes north east s))

abbrev pub precision_step : ℤ → ℤ → ℕ → ToldStep
precision_step north east s = of_closures most_closure north east s (pos (precision north east s))

-- the rule itself, of what is told: where that is no refusal, it is the largest P
pub record PrecisionTold (north east : ℤ) (s : ℕ) (t : ToldStep) : Type 0 where
  pub largest : t.number ≡ 0 → Precision north east s (nat_abs t.value)
