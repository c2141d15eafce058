-- A refusal gives its number and its place, zeros otherwise, and changes nothing that was lent. It
-- is said of every outcome that the promises of the traverse and of the sheet allow, by the entries
-- of any table. It is true because words or bytes are put in only where every test has passed, and
-- there the number told is 0.
use Prim.Native.Nat.{ℕ}
use mathlib.Core.Path.{◌≡◌, refl}
use mathlib.Core.List.{List}
use lib.Dec.{ltb, eqb}
use lib.ListN.{length}
use lib.IntN.{ℤ}
use Rattle.whole.proofs.Branch.{by_test}
use Rattle.std.specs.Prelude.{Result, Ok, Err}
use Rattle.answer.specs.declared.Refused.{Refused}
use Rattle.desk.specs.declared.Figures.{Figures}
use Rattle.desk.specs.Angles.{Balanced}
use Rattle.desk.specs.Answer.{refused_traverse, told_traverse, first_for}
use Rattle.desk.specs.Answer.{closes_on, adjusted_traverse}
use Rattle.desk.specs.Answer.{adjusted_words, after_first, words_after_first}
use Rattle.desk.specs.Answer.{traversed_by, traversed_words_by}
use Rattle.desk.specs.Sheet.{shown, shown_bytes, sheet_bytes, answered, paged, paged_bytes}
use Rattle.desk.specs.Sheet.{Showed, told_sheet}

-- ---- the traverse
module _ (e : ℕ → ℤ) (words : List ℤ) where
  second_kept : (b : Balanced) → ((adjusted_traverse e b).number ≡ 0 → ⊥)
      → adjusted_words e b words ≡ words
  unfolding adjusted_traverse adjusted_words
  second_kept b some =
      by_test (λ (l : List ℤ). l ≡ words) (closes_on e b)
      (λ c. absurd (some (rw c)))
      (λ c. refl)

  first_kept : (x : Result Balanced Refused) → ((after_first e x).number ≡ 0 → ⊥)
      → words_after_first e x words ≡ words
  first_kept (Err r) some = refl
  first_kept (Ok b) some = second_kept b some

-- "A refusal .. writes nothing into lent memory"
pub refused_words : (e : ℕ → ℤ) (tape : List ℕ) (words left : List ℤ) (x : Result Figures Refused)
    → told_traverse x ≡ traversed_by e tape (length words) → left ≡ traversed_words_by e tape words
    → ((told_traverse x).number ≡ 0 → ⊥) → left ≡ words
unfolding traversed_by traversed_words_by
refused_words e tape words left x h g some =
    rw g (first_kept e words (first_for tape (length words)) (rw h at some))

-- "A refusal returns its number and its place, zeros otherwise", whatever was asked
pub refused_zeros : (x : Result Figures Refused) → ((told_traverse x).number ≡ 0 → ⊥)
    → told_traverse x ≡ refused_traverse (told_traverse x).number (told_traverse x).place
refused_zeros (Err r) some = refl
refused_zeros (Ok f) some = absurd (some refl)

-- ---- the sheet: "lent memory is untouched", and the length told is zero
pub refused_sheet : (e : ℕ → ℤ) (tape out left : List ℕ) (r : Result ℕ Refused)
    → Showed e tape out left r → ((told_sheet r).number ≡ 0 → ⊥) → left ≡ out
unfolding paged paged_bytes shown shown_bytes
refused_sheet e tape out left r h some =
    let Kept : List ℕ → Type 0 = λ l. l ≡ out in
    rw h.left
    (by_test Kept (ltb (length out) sheet_bytes)
    (λ few. refl)
    (λ room. by_test Kept (eqb (answered e tape).number 0)
    (λ none. absurd (some (rw (h.tells, room, none))))
    (λ other. refl)))

pub refused_length : (r : Result ℕ Refused) → ((told_sheet r).number ≡ 0 → ⊥)
    → (told_sheet r).used ≡ 0
refused_length (Err r) some = refl
refused_length (Ok n) some = absurd (some refl)
