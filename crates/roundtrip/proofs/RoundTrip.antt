-- Demand 2, of what `write` does and of what `take` answers: both round trips.
use Prim.Native.Nat.{ℕ, ◌≤◌}
use mathlib.Core.Path.{◌≡◌, sym, subst, ◌∙◌, ap}
use mathlib.Core.List.{List}
use lib.ListN.{length, drop}
use lib.Seq.{take-append_seam}
use Rattle.std.specs.Prelude.{Result, Ok}
use Rattle.answer.specs.declared.Refused.{Refused}
use Rattle.records.specs.declared.Record.{Record}
use Rattle.records.specs.Record.{Rec}
use Rattle.tape.specs.declared.State.{State}
use Rattle.tape.specs.declared.Control.{Control}
use Rattle.tape.specs.Tape.{records_of, tape_of, fields_read}
use Rattle.tape.specs.Fields.{taken_of, AllBytes, DoesRead}
use Rattle.tape.specs.Legs.{Good}
use Rattle.tape.proofs.Back.{same_records}
use Rattle.tape.proofs.Rest.{good_records}
use Rattle.tape.proofs.Round.{same_bytes}
use Rattle.tape.proofs.Standing.{took}
use Rattle.roundtrip.specs.Writes.{Writes, recs, Leaves, ReadsBack, Writable}
use Rattle.roundtrip.proofs.Given.{writable}
use Rattle.roundtrip.proofs.Writing.{written_tape}

-- fields that no refusal tried before 8 meets are in range
fields_good : (rs : List Rec) (last : State) → fields_read rs ≡ Ok last → Good rs
fields_good rs last e =
    let s = same_records rs last e in
    subst Good s.1 (good_records (tape_of rs) (record { last = last; reads = s.0 }))

-- "Fields written as a tape that no refusal tried before 8 meets read back as the same fields, in a
-- reading that stands before 8 and 9"
pub reads_back : (rs : List Record) (last : State) (out left : List ℕ) (w : Result ℕ Refused)
    → fields_read (recs rs) ≡ Ok last → length (tape_of (recs rs)) ≤ length out
    → Writes out 0 rs left w → ReadsBack (recs rs) last left w
reads_back rs last out left w e room h =
    let tape = tape_of (recs rs) in
    let l = written_tape rs out left w (fields_good (recs rs) last e) room h in
    let s = same_records (recs rs) last e in
    let front = take-append_seam tape (drop (length tape) out) in
    record {
      until = length tape;
      answer = l.answer;
      reads = rw (l.bytes, front) s.0;
      same = rw (l.bytes, front) s.1;
    }

-- "an accepted tape written again from its fields is the same bytes": r is what the promise of
-- `take` allows for the tape, and the tape reads
module _ (tape : List ℕ) (r : Result Control Refused) (c : Control) (is : r ≡ taken_of tape)
    (bytes : AllBytes tape) (reads : r ≡ Ok c) where
  does : DoesRead tape
  does = (took tape c (sym is ∙ reads)).0

  pub its_records : Writable (records_of tape)
  its_records = writable tape does

  pub written_again : (rs : List Record) (out left : List ℕ) (w : Result ℕ Refused)
      → recs rs ≡ records_of tape → length tape ≤ length out
      → Writes out 0 rs left w → Leaves tape out left w
  written_again rs out left w e room h =
      let same = ap tape_of e ∙ same_bytes tape does.last bytes does.reads in
      let good : Good (recs rs) = rw e (good_records tape does) in
      rw same at (written_tape rs out left w good (rw same room) h)
