-- docs/RULES.md, "Nine refusals": "A refusal returns number and place, every other number zero";
-- "On acceptance number and place are zero". An answer is told as these numbers, and every promise
-- is an equation of what is told.
use Rattle.std.specs.Prelude.{Bool, cond, ◌&&◌, ℕ, leb, ℤ, pos, Result, Ok, Err}
use Rattle.whole.specs.declared.Whole.{Whole}
use Rattle.answer.specs.Refusal.{out_of_range}
use Rattle.answer.specs.declared.OutOfRange.{OutOfRange}

pub record ToldStep : Type 0 where
  pub number : ℕ
  pub place : ℕ
  pub value : ℤ

abbrev pub given : ℤ → ToldStep
given z = record { number = 0; place = 0; value = z }

abbrev pub refused : ℕ → ℕ → ToldStep
refused number place = record { number = number; place = place; value = pos 0 }

-- "A public arithmetic step gives 4, place 0, for an input out of the range stated with it"
abbrev pub in_range : Bool → ℤ → ToldStep
in_range good z = cond good (given z) (refused out_of_range 0)

-- a range as the rules write it, low..high
unfoldable pub inside : ℕ → ℕ → ℕ → Bool
inside low high x = leb low x && leb x high

-- a test that passes is told as 1, one that fails as 0
abbrev pub passes : Bool → ℤ
passes good = cond good (pos 1) (pos 0)

-- ---- what each case of an answer tells, where f is the number of a value
unfoldable pub told : {A : Type 0} → (A → ℤ) → Result A OutOfRange → ToldStep
told f (Ok x) = given (f x)
told f (Err _) = refused out_of_range 0

-- an amount with a sign, a value that is never negative, and a test
abbrev pub told_amount : Result Whole OutOfRange → ToldStep
told_amount = told (λ z. z.v)

abbrev pub told_count : Result ℕ OutOfRange → ToldStep
told_count = told pos

abbrev pub told_verdict : Result Bool OutOfRange → ToldStep
told_verdict = told passes
