-- What is printed of the bytes that were read is printed of the whole input: either these are all,
-- or they are as many as are enough.
use Rattle.std.proofs.Common.{ℕ, ◌≡◌, ◌<◌, ◌≤◌, List, arith, length, take}
use Rattle.std.proofs.Common.{ap, subst, ◌∙◌, IfSome, OnOk, Ok, Err, Some, None}
use Rattle.std.proofs.lemmas.Grind.{common_steps}
use Rattle.std.proofs.Math.Seq.{take-append_seam}
use Rattle.std.specs.Io.KnownBytes.{Appends, Consumes, IsAtEnd}
use Rattle.std.specs.declared.option.Option.{Option}
use Rattle.std.specs.declared.result.Result.{Result}
use Rattle.desk.specs.Sheet.{over, printed, printed_in, sheet_bytes, tape_bytes}
use Rattle.desk.proofs.Enough.{enough}
use Rattle.intake.proofs.Single.{read_is}

pub read_enough : (a b : Option (List ℕ)) (room : List ℕ) (n : ℕ) → length room ≡ tape_bytes
    → n ≤ length room → Consumes a b (take n room) → (n < length room → IsAtEnd b)
    → IfSome a (λ tape. printed (take n room) ≡ printed tape)
read_enough None b room n len within took end = tt
read_enough (Some tape) b room n len within took end =
    let read = read_is tape b room n (within, took, end) in
    ap printed (read.0 ∙ ap (λ k. take k tape) len) ∙ enough tape

-- what stands at the front of the bytes that were lent
pub front_printed : (tape out m : List ℕ) (k : ℕ) → length out ≡ sheet_bytes
    → k ≡ length (printed_in tape (length out)) → m ≡ over (printed_in tape (length out)) out
    → take k m ≡ printed tape
front_printed tape out m k len long bytes =
    grind (arith, common_steps, take-append_seam)

-- what is written of the bytes that were read, is written of the whole input
pub appends_printed : {E : Type 0} (r : Result Unit E) (a w w' : Option (List ℕ)) (bs read : List ℕ)
    → OnOk r (Appends w w' bs) → bs ≡ printed read → IfSome a (λ tape. printed read ≡ printed tape)
    → OnOk r (IfSome a (λ tape. Appends w w' (printed tape)))
appends_printed (Err e) a w w' bs read p q h = tt
appends_printed (Ok v) None w w' bs read p q h = tt
appends_printed (Ok v) (Some tape) w w' bs read p q h = subst (Appends w w') (q ∙ h) p
