-- From a place on, a tape is exactly these records: so it is at the start of a tape that reads, and
-- after each record; and the kind and the numbers there are the record's own. No state of the
-- reader is in any of it.
use Prim.Native.Nat.{ℕ, zero, suc, ◌+◌, ◌≤◌, ◌<◌}
use native.Mathlib.Omega.{arith}
use native.Mathlib.Nat.{add-zero, add_assoc}
use mathlib.Core.Path.{◌≡◌, sym, ◌∙◌, ap}
use mathlib.Core.Bool.{true}
use mathlib.Core.List.{List, [], ◌∷◌, ◌++◌}
use lib.IntN.{ℤ, pos}
use lib.ListN.{length, get_or, drop, length-append, length-drop}
use lib.Seq.{drop-drop, drop_at}
use Rattle.records.specs.Bytes.{two, byte_count, num, unsigned, meant}
use Rattle.records.specs.Record.{Field, Rec, kind_fields, numbers, numbers_of, body_of, bytes_of}
use Rattle.tape.specs.Fields.{signed_at, number_at, AllBytes, DoesRead}
use Rattle.tape.specs.Legs.{Good, Rest}
use Rattle.tape.specs.Tape.{judge, start, records_of, tape_of, run_of}
use Rattle.tape.specs.declared.State.{State}
use Rattle.tape.proofs.Back.{length_body, numbers_back}
use Rattle.tape.proofs.Numbers.{head_drop, num_drop}
use Rattle.tape.proofs.Round.{same_bytes, lawful, reads_next}
use Rattle.tape.proofs.Walk.{passed}
use Rattle.std.specs.Prelude.{Ok}

-- ---- the start
good_run : (st : State) (at : ℕ) (rs : List Rec) (last : State) → run_of st at rs ≡ Ok last
    → Good rs
unfolding run_of
good_run st at [] last e = tt
good_run st at (r ∷ rs) last e =
    let w = reads_next (judge st r.kind true r.values) at _ last e in
    ((passed st w.0 r.kind true r.values w.1).ok, good_run w.0 _ rs last w.2)

pub good_records : (tape : List ℕ) → DoesRead tape → Good (records_of tape)
good_records tape d = good_run start 0 _ d.last (lawful tape d.last d.reads)

pub rest_start : (tape : List ℕ) → AllBytes tape → DoesRead tape → Rest tape 0 (records_of tape)
rest_start tape b d =
    record { is = sym (same_bytes tape d.last b d.reads); good = good_records tape d }

-- ---- a record at a place
module _ (tape : List ℕ) (at : ℕ) (r : Rec) (rs : List Rec) (h : Rest tape at (r ∷ rs)) where
  front : drop at tape ≡ bytes_of r.kind r.values ++ tape_of rs
  unfolding tape_of
  front = h.is

  long : length (bytes_of r.kind r.values) ≡ suc (body_of r.kind)
  unfolding bytes_of
  long = ap suc (length_body r.kind r.values [] h.good.0)

  pub kind_there : get_or tape at 0 ≡ r.kind
  unfolding bytes_of
  kind_there = sym (head_drop at tape) ∙ rw front

  pub whole_there : at + 1 + body_of r.kind ≤ length tape
  whole_there =
      omega (
        arith,
        long,
        length-append (bytes_of r.kind r.values) (tape_of rs),
        ap length front,
        length-drop at tape,
      )

  pub rest_next : Rest tape (at + 1 + body_of r.kind) rs
  rest_next =
      let after : at + 1 + body_of r.kind ≡ at + suc (body_of r.kind) = omega arith in
      record {
        is =
            rw (after, ← drop-drop (suc (body_of r.kind)) at tape, front)
            (drop_at (bytes_of r.kind r.values) (tape_of rs) _ long);
        good = h.good.1;
      }

  pub numbers_there : numbers_of r.kind (drop at tape) ≡ r.values
  numbers_there = rw front (numbers_back r.kind r.values (tape_of rs) h.good.0)

-- the last record ends the tape
pub last_there : (tape : List ℕ) (at : ℕ) (r : Rec) → Rest tape at (r ∷ [])
    → at + 1 + body_of r.kind ≡ length tape
unfolding tape_of
last_there tape at r h =
    let n = rest_next tape at r [] h in
    omega (
      arith,
      whole_there tape at r [] h,
      ap length n.is,
      length-drop (at + 1 + body_of r.kind) tape,
    )

-- ---- where a number of a record stands: so many bytes into its body; and its field
abbrev pub offset : List Field → ℕ → ℕ
offset [] i = 0
offset (f ∷ fs) zero = 0
offset (f ∷ fs) (suc i) = byte_count f.width + offset fs i

abbrev pub field_at : List Field → ℕ → Field
field_at fs i =
    get_or fs i (record { width = two; coding = unsigned; low = pos 0; high = pos 0 })

-- what the bytes at a place say, as number i of a record
abbrev pub spelled : List Field → ℕ → List ℕ → ℕ → ℤ
spelled fs i l p =
    let f = field_at fs i in meant f.coding f.width (num f.width l p)

-- a number of any field, of any kind
value_in : (fs : List Field) (i : ℕ) (l : List ℕ) (k : ℕ) → i < length fs
    → get_or (numbers fs l k) i (pos 0) ≡ spelled fs i l (k + offset fs i)
value_in [] i l k h = absurd (omega arith)
value_in (f ∷ fs) zero l k h = rw add-zero
value_in (f ∷ fs) (suc i) l k h =
    rw (← add_assoc k (byte_count f.width) (offset fs i))
    (value_in fs i l (k + byte_count f.width) (omega arith))

module _ (tape : List ℕ) (at : ℕ) (r : Rec) (rs : List Rec) (h : Rest tape at (r ∷ rs)) where
  pub value_there : (k i p : ℕ) → r.kind ≡ k → i < length (kind_fields k)
      → p ≡ at + 1 + offset (kind_fields k) i → signed_at r i ≡ spelled (kind_fields k) i tape p
  unfolding numbers_of
  value_there k i p kind low e =
      let there : at + (1 + offset (kind_fields k) i) ≡ p = omega arith in
      rw (
        ← numbers_there tape at r rs h,
        kind,
        value_in (kind_fields k) i (drop at tape) 1 low,
        num_drop,
        there,
      )

  -- and one without a sign
  pub number_there : (k i p : ℕ) → r.kind ≡ k → i < length (kind_fields k)
      → (field_at (kind_fields k) i).coding ≡ unsigned
      → p ≡ at + 1 + offset (kind_fields k) i
      → number_at r i ≡ num (field_at (kind_fields k) i).width tape p
  unfolding meant
  number_there k i p kind low c e = rw (value_there k i p kind low e, c)
