-- What is told of each case of a step's answer, and of a reading.
use Prim.Native.Nat.{ℕ}
use mathlib.Core.Path.{◌≡◌, refl, ◌∙◌, ap}
use mathlib.Core.List.{List}
use lib.IntN.{ℤ, pos}
use Rattle.std.proofs.Common.{Result, Ok, Err}
use Rattle.answer.specs.Told.{told}
use Rattle.answer.specs.declared.OutOfRange.{OutOfRange}
use Rattle.answer.specs.declared.Refused.{Refused}
use Rattle.tape.specs.declared.Control.{Control}
use Rattle.tape.specs.Tape.{reading_of, told_reading}
use Rattle.tape.specs.Fields.{taken_of, told_taken}
use Rattle.tape.proofs.Standing.{taken_tells}
use Rattle.vastrudhil.specs.Face.{TellsStep, TellsReading}

-- ---- the cases of a step
module _ {A : Type 0} (f : A → ℤ) (r : Result A OutOfRange) where
  pub step_is : (x : A) → r ≡ Ok x → TellsStep f (told f r) x 0
  unfolding told
  step_is x e = rw e (record { number = refl; value = refl })

  pub step_out : (o : OutOfRange) (x : A) (n : ℕ) → r ≡ Err o → f x ≡ pos 0 → n ≡ 4
      → TellsStep f (told f r) x n
  unfolding told
  step_out o x n e h i = rw e (record { number = i; value = h })

-- ---- a reading, by what was taken of the tape
pub reading_as : (tape : List ℕ) (a : Result Control Refused) (p n : ℕ) → a ≡ taken_of tape
    → TellsReading (told_taken a) p n → TellsReading (told_reading (reading_of tape)) p n
reading_as tape a p n e h =
    let t = taken_tells tape in
    record {
      number = h.number ∙ ap (λ (x : Result Control Refused). (told_taken x).number) e ∙ t.0;
      place = h.place ∙ ap (λ (x : Result Control Refused). (told_taken x).place) e ∙ t.1;
    }
