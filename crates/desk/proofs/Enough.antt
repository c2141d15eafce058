-- The 8,192 bytes that the program reads suffice: of any tape the same is printed as of its first
-- 8,192 bytes. A shorter tape is these bytes, and a longer one is refused by its reading as they
-- are, so that the same number is printed.
use Prim.Native.Nat.{ℕ, ◌-◌, ◌<◌}
use native.Mathlib.Omega.{arith}
use native.Mathlib.Nat.{eq-zero-or-pos}
use mathlib.Core.Path.{◌≡◌, sym, ◌∙◌}
use mathlib.Core.Logic.{⊎_elim}
use mathlib.Core.List.{List}
use lib.ListN.{length, take, drop, take-append-drop}
use lib.Seq.{take_all, length-take-le}
use Rattle.std.specs.Prelude.{Err}
use Rattle.answer.specs.Refusal.{number_of}
use Rattle.answer.specs.declared.Refused.{Refused}
use Rattle.tape.specs.Tape.{reading_of}
use Rattle.tape.proofs.Longest.{long_cut}
use Rattle.desk.specs.Answer.{refused_traverse, first_of, first_for, traversed_by}
use Rattle.desk.specs.Answer.{traversed_words_by}
use Rattle.desk.specs.Sheet.{tape_bytes, own_words, printed_of, printed}

-- what is printed of a tape that its reading refuses is only that refusal
refused_printed : (tape : List ℕ) (r : Refused) → reading_of tape ≡ Err r
    → printed tape ≡ printed_of (refused_traverse (number_of r.refusal) r.place) own_words
unfolding printed traversed_by traversed_words_by first_for first_of
refused_printed tape r e = rw e

pub enough : (tape : List ℕ) → printed (take tape_bytes tape) ≡ printed tape
enough tape =
    ⊎_elim (λ (none : length tape - tape_bytes ≡ 0). rw (take_all tape_bytes tape (omega arith)))
    (λ (more : 0 < length tape - tape_bytes).
    let c = long_cut (take tape_bytes tape) (drop tape_bytes tape)
    (omega (arith, length-take-le tape_bytes tape (omega arith))) in
    let whole : reading_of tape ≡ Err c.refused =
    rw (take-append-drop tape_bytes tape) at c.whole in
    refused_printed _ _ c.short ∙ sym (refused_printed tape _ whole))
    (eq-zero-or-pos (length tape - tape_bytes))
