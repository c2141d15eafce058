-- What is told determines the answer: two answers that tell the same are the same. So a promise
-- `told f r ≡ ..` allows one answer only, and "any two outcomes coincide" is one of these laws at
-- each step.
use mathlib.Core.Path.{◌≡◌, refl, sym, ◌∙◌, ap}
use mathlib.Core.Bool.{Bool}
use Prim.Native.Nat.{ℕ}
use native.Mathlib.Omega.{arith}
use lib.IntN.{ℤ, pos, nat_abs}
use mathlib.Core.List.{[], ◌∷◌}
use Rattle.std.proofs.Common.{Result, Ok, Err, get_or}
use Rattle.whole.specs.declared.Whole.{Whole}
use Rattle.whole.proofs.Single.{whole_single}
use Rattle.answer.specs.declared.OutOfRange.{OutOfRange}
use Rattle.answer.specs.declared.Refusal.{Refusal}
use Rattle.answer.specs.declared.Refusal.TheVariants as refusal
use Rattle.answer.specs.declared.Refusal.TheVariants.{NoRoom, CutShort, OutOfOrder, BadRows}
use Rattle.answer.specs.declared.Refusal.TheVariants.{TooManyLegs, NoRow, BadAngles, BadClosure}
use Rattle.answer.specs.declared.UnknownNumber.{UnknownNumber}
use Rattle.answer.specs.Refusal.{number_of, Names}
use Rattle.answer.specs.Told.{ToldStep, told, told_amount, told_count, told_verdict, passes}
use Rattle.answer.proofs.Telling.{one_flag}

-- different values have different numbers
abbrev TellsApart : {A : Type 0} → (A → ℤ) → Type 0
TellsApart {A} f = (x y : A) → f x ≡ f y → x ≡ y

-- tellings with different numbers are different
differ : {t u : ToldStep} {A : Type 0} → (t.number ≡ u.number → ⊥) → t ≡ u → A
differ f e = absurd (f (ap (λ (t : ToldStep). t.number) e))

one_answer : {A : Type 0} (f : A → ℤ) → TellsApart f → (x y : Result A OutOfRange)
    → told f x ≡ told f y → x ≡ y
unfolding told
one_answer f apart (Ok y) (Ok z) e = ap Ok (apart y z (ap (λ (t : ToldStep). t.value) e))
one_answer f apart (Ok y) (Err _) e = differ (λ h. omega arith) e
one_answer f apart (Err _) (Ok z) e = differ (λ h. omega arith) e
one_answer f apart (Err _) (Err _) e = refl

-- ---- two answers that a promise allows
coincide : {A : Type 0} (f : A → ℤ) → TellsApart f → (t : ToldStep) (x y : Result A OutOfRange)
    → told f x ≡ t → told f y ≡ t → x ≡ y
coincide f apart t x y e h = one_answer f apart x y (e ∙ sym h)

pub amounts_coincide : (t : ToldStep) (x y : Result Whole OutOfRange) → told_amount x ≡ t
    → told_amount y ≡ t → x ≡ y
amounts_coincide = coincide (λ z. z.v) (λ x y e. whole_single x.v x y refl (sym e))

pub counts_coincide : (t : ToldStep) (x y : Result ℕ OutOfRange) → told_count x ≡ t
    → told_count y ≡ t → x ≡ y
counts_coincide = coincide pos (λ x y e. ap nat_abs e)

pub verdicts_coincide : (t : ToldStep) (x y : Result Bool OutOfRange) → told_verdict x ≡ t
    → told_verdict y ≡ t → x ≡ y
verdicts_coincide = coincide passes one_flag

-- `Refusal::number`
pub number_single : (r : Refusal) (x y : ℕ) → x ≡ number_of r → y ≡ number_of r → x ≡ y
number_single r x y e f = e ∙ sym f

-- the refusals by their numbers
abbrev named : ℕ → Refusal
named n =
    get_or
    (NoRoom
    ∷ NoRoom
    ∷ CutShort
    ∷ OutOfOrder
    ∷ refusal.OutOfRange
    ∷ BadRows
    ∷ TooManyLegs
    ∷ NoRow
    ∷ BadAngles
    ∷ BadClosure
    ∷ [])
    n NoRoom

named_again : (r : Refusal) → named (number_of r) ≡ r
named_again NoRoom = refl
named_again CutShort = refl
named_again OutOfOrder = refl
named_again refusal.OutOfRange = refl
named_again BadRows = refl
named_again TooManyLegs = refl
named_again NoRow = refl
named_again BadAngles = refl
named_again BadClosure = refl

-- refusals of one number are one
pub one_refusal : (r s : Refusal) → number_of r ≡ number_of s → r ≡ s
one_refusal r s e = sym (named_again r) ∙ ap named e ∙ named_again s

-- `Refusal::try_from`
pub named_single : (n : ℕ) (x y : Result Refusal UnknownNumber) → Names n x → Names n y → x ≡ y
named_single n (Ok r) (Ok s) e f = ap Ok (one_refusal r s (e ∙ sym f))
named_single n (Ok r) (Err v) e f = absurd (f.1 r e)
named_single n (Err u) (Ok s) e f = absurd (e.1 s f)
named_single n (Err u) (Err v) e f =
    ap (λ (k : ℕ). Err (record { number = k })) (e.0 ∙ sym f.0)
