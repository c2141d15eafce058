-- A refusal of the writer changes nothing: whatever the number, the lent bytes are as they were and
-- no next place is told. It is true because the bytes are stored only where both tests have passed,
-- and there the number told is 0.
use Prim.Native.Nat.{ℕ, ◌+◌}
use mathlib.Core.Path.{◌≡◌, refl, ◌∙◌}
use mathlib.Core.Bool.{Bool}
use mathlib.Core.List.{List}
use lib.Dec.{leb}
use lib.ListN.{length}
use Rattle.whole.proofs.Branch.{by_test}
use Rattle.std.proofs.Common.{Result, Ok, Err}
use Rattle.answer.specs.declared.Refused.{Refused}
use Rattle.writer.specs.Write.{Wrote, answer_of, left_of, told_written}

-- "zeros otherwise": whatever is refused, no next place is told
none_next : (r : Result ℕ Refused) → ((told_written r).number ≡ 0 → ⊥) → (told_written r).next ≡ 0
none_next (Err _) some = refl
none_next (Ok n) some = absurd (some refl)

pub refused_nothing : (out left : List ℕ) (place : ℕ) (good : Bool) (bytes : List ℕ)
    (r : Result ℕ Refused) → Wrote out left place good bytes r
    → ((told_written r).number ≡ 0 → ⊥) → (left ≡ out) × ((told_written r).next ≡ 0)
unfolding answer_of left_of
refused_nothing out left place good bytes r w some =
    let Kept : List ℕ → Type 0 = λ l. l ≡ out in
    let kept = by_test Kept (leb (place + length bytes) (length out))
    (λ room. by_test Kept good (λ h. absurd (some (rw (w.answer, room, h)))) (λ h. refl))
    (λ room. refl) in
    (w.left ∙ kept, none_next r some)
