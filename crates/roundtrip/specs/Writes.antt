-- docs/RULES.md, "The three demands": of the second, the round trips. A tape is written by `write`,
-- one record after the other; here is what such a writing leaves in the lent bytes.
use Rattle.std.specs.Prelude.{◌≡◌, List, [], ◌∷◌, ◌++◌, map, ℕ, length, take, drop}
use Rattle.std.specs.Prelude.{Result, Ok, Err}
use Rattle.std.specs.Int.{w32, w64}
use Rattle.std.proofs.Common.{Fits, SFits}
use Rattle.answer.specs.declared.Refused.{Refused}
use Rattle.records.specs.declared.Record.{Record}
use Rattle.records.specs.declared.Record.TheVariants as kinds
use Rattle.records.specs.Record.{Rec, rec_of, good_record, bytes_of_record}
use Rattle.writer.specs.Write.{Wrote}
use Rattle.tape.specs.declared.State.{State}
use Rattle.tape.specs.Tape.{reading_of, records_of}
use Rattle.tape.specs.Legs.{Good}

-- ---- "Fields written as a tape": each record is given to `write`, the first at a place of the
-- lent bytes, each next one at the place that `write` answered, until all are written or one is
-- refused. `Writes out at rs left w`: from the bytes out and the place at on, the records rs leave
-- the bytes left, and w is the last answer
pub data Writes : List ℕ → ℕ → List Record → List ℕ → Result ℕ Refused → Type 0 where
  none : {out : List ℕ} {at : ℕ} → Writes out at [] out (Ok at)
  next : {out mid left : List ℕ} {at n : ℕ} (r : Record) {rs : List Record}
      {w : Result ℕ Refused}
      → Wrote out mid at (good_record r) (bytes_of_record r) (Ok n) → Writes mid n rs left w
      → Writes out at (r ∷ rs) left w
  stop : {out left : List ℕ} {at : ℕ} {x : Refused} (r : Record) {rs : List Record}
      → Wrote out left at (good_record r) (bytes_of_record r) (Err x)
      → Writes out at (r ∷ rs) left (Err x)

-- the fields that some records of the code have
abbrev pub recs : List Record → List Rec
recs rs = map rec_of rs

-- ---- what the writing of a tape leaves: no refusal, the tape in front, no other byte changed
pub record Leaves (tape out left : List ℕ) (w : Result ℕ Refused) : Type 0 where
  pub answer : w ≡ Ok (length tape)
  pub bytes : left ≡ tape ++ drop (length tape) out

-- ---- "read back as the same fields, in a reading that stands before 8 and 9": the bytes up to the
-- place that was answered read, and have the fields
pub record ReadsBack (fields : List Rec) (last : State) (left : List ℕ) (w : Result ℕ Refused)
    : Type 0 where
  pub until : ℕ
  pub answer : w ≡ Ok until
  pub reads : reading_of (take until left) ≡ Ok last
  pub same : records_of (take until left) ≡ fields

-- ---- some fields can be given to `write`: there are records that have them, each in range, and
-- each number is one that its type in the code holds, a u32 or the i64 of an elevation
abbrev pub Held : Record → Type 0
Held (kinds.Row m f) = Fits w32 m × Fits w32 f
Held (kinds.Project m e) = Fits w32 m × SFits w64 e.v
Held (kinds.Start n e m) = Fits w32 n × Fits w32 e × Fits w32 m
Held (kinds.Leg a d) = Fits w32 a × Fits w32 d
Held (kinds.Close a n e m) = Fits w32 a × Fits w32 n × Fits w32 e × Fits w32 m

abbrev pub AllHeld : List Record → Type 0
AllHeld [] = Unit {0}
AllHeld (r ∷ rs) = Held r × AllHeld rs

pub record Writable (fields : List Rec) : Type 0 where
  pub records : List Record
  pub same : recs records ≡ fields
  pub good : Good fields
  pub held : AllHeld records
