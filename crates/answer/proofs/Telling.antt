-- How a step's code meets its telling: the value where every test of a range passed, 4 at place 0
-- where one failed. `search ranges` goes from the tests of the code to the range of the definition,
-- whatever tests there are.
use mathlib.Core.Path.{◌≡◌, refl, sym, ◌∙◌, ap}
use mathlib.Core.Bool.{Bool, true, false, ◌&&◌}
use Prim.Native.Nat.{ℕ, ◌≤◌, ◌<◌}
use native.Mathlib.Omega.{arith}
use borrow.Author.Tests.{le-leb, lt-leb, lt-ltb, le-ltb}
use lib.Dec.{leb}
use lib.IntN.{ℤ, pos, nat_abs}
use Rattle.std.proofs.Common.{rules, Result, Ok, Err, IsOk}
use Rattle.answer.specs.declared.OutOfRange.{OutOfRange}
use Rattle.answer.specs.Told.{ToldStep, told, given, in_range, inside, passes}

-- ---- the value, where the input is in range
pub tells : {A : Type 0} (f : A → ℤ) (good : Bool) (x : A) (z : ℤ) → good ≡ true → f x ≡ z
    → told f (Ok x) ≡ in_range good z
unfolding told
tells f good x z e h = rw e (ap given h)

-- a count, and a test, by the value itself
pub counts : (good : Bool) (n m : ℕ) → good ≡ true → n ≡ m
    → told pos (Ok n) ≡ in_range good (pos m)
counts good n m e h = tells pos good n (pos m) e (ap pos h)

pub tests : (good r ok : Bool) → good ≡ true → r ≡ ok
    → told passes (Ok r) ≡ in_range good (passes ok)
tests good r ok e h = tells passes good r (passes ok) e (ap passes h)

-- ---- the refusal, where it is not
pub refuses : {A : Type 0} (f : A → ℤ) (e : OutOfRange) (good : Bool) (z : ℤ) → good ≡ false
    → told f (Err e) ≡ in_range good z
unfolding told
refuses f e good z h = rw h

-- ---- for a caller: a step whose input is in range has a value, and which value that is
pub has_value : {A : Type 0} (f : A → ℤ) (r : Result A OutOfRange) (good : Bool) (z : ℤ)
    → told f r ≡ in_range good z → good ≡ true → IsOk r
unfolding told
has_value f (Ok x) good z e h = search rules
has_value f (Err _) good z e h =
    absurd (omega (arith, ap (λ (t : ToldStep). t.number) (e ∙ ap (λ (b : Bool). in_range b z) h)))

pub value_told : {A : Type 0} (f : A → ℤ) (r : Result A OutOfRange) (x : A) (good : Bool) (z : ℤ)
    → told f r ≡ in_range good z → good ≡ true → r ≡ Ok x → f x ≡ z
unfolding told
value_told f r x good z e h i =
    ap (λ (t : ToldStep). t.value) (sym (ap (told f) i) ∙ e ∙ ap (λ (b : Bool). in_range b z) h)

pub value_given : (t : ToldStep) (good : Bool) (z : ℤ) → t ≡ in_range good z → good ≡ true
    → t.value ≡ z
value_given t good z e h =
    ap (λ (u : ToldStep). u.value) e ∙ ap (λ (b : Bool). (in_range b z).value) h

-- tests that are told alike are alike
pub one_flag : (x y : Bool) → passes x ≡ passes y → x ≡ y
one_flag true true i = refl
one_flag false false i = refl
one_flag true false i = absurd (omega (arith, ap nat_abs i))
one_flag false true i = absurd (omega (arith, ap nat_abs i))

-- of a test, whether it passes
pub verdict_given : (t : ToldStep) (good r ok : Bool) → t ≡ in_range good (passes ok) → good ≡ true
    → passes r ≡ t.value → r ≡ ok
verdict_given t good r ok e h f = one_flag r ok (f ∙ value_given t good (passes ok) e h)

-- ---- the range, from the code's tests
pub both : (a b : Bool) → a ≡ true → b ≡ true → (a && b) ≡ true
both a b e f = rw (e, f)

pub not_first : (a b : Bool) → a ≡ false → (a && b) ≡ false
not_first a b e = rw e

pub not_second : (a b : Bool) → b ≡ false → (a && b) ≡ false
not_second true b e = e
not_second false b e = refl

pub inside_yes : (low high x : ℕ) → low ≤ x → x ≤ high → inside low high x ≡ true
unfolding inside
inside_yes low high x h k = rw (le-leb low x h, le-leb x high k)

pub inside_low : (low high x : ℕ) → x < low → inside low high x ≡ false
unfolding inside
inside_low low high x h = rw (lt-leb low x h)

pub inside_high : (low high x : ℕ) → high < x → inside low high x ≡ false
unfolding inside
inside_high low high x h = not_second (leb low x) (leb x high) (lt-leb x high h)

-- a test that the code has in a call's result
pub flag_yes : (r good : Bool) → r ≡ good → r ≡ true → good ≡ true
flag_yes r good e f = sym e ∙ f

pub flag_no : (r good : Bool) → r ≡ good → r ≡ false → good ≡ false
flag_no r good e f = sym e ∙ f

-- a size, which the code has in a local
pub size_yes : (n k : ℕ) (z : ℤ) → n ≡ nat_abs z → n ≤ k → leb (nat_abs z) k ≡ true
size_yes n k z e h = rw (← e) (le-leb n k h)

pub size_no : (n k : ℕ) (z : ℤ) → n ≡ nat_abs z → k < n → leb (nat_abs z) k ≡ false
size_no n k z e h = rw (← e) (lt-leb n k h)

pub ruleset ranges = (
  counts,
  tests,
  tells,
  refuses,
  both,
  not_first,
  not_second,
  inside_yes,
  inside_low,
  inside_high,
  size_yes,
  size_no,
  le-leb,
  lt-leb,
  lt-ltb,
  le-ltb,
)
