-- Reading, then writing: a tape that reads, written again from its fields, is the same bytes, and
-- its fields meet no refusal tried before 8. It is true because a record is taken only where its
-- body is whole, and the bytes of a number that was read are those that it was read from.
use Prim.Native.Nat.{ℕ, zero, suc, ◌+◌, ◌/◌, ◌≤◌, ◌<◌}
use native.Mathlib.Omega.{arith}
use mathlib.Core.Path.{◌≡◌, refl}
use mathlib.Core.List.{List, [], ◌∷◌}
use mathlib.Core.Bool.{true}
use lib.Dec.{ltb}
use lib.ListN.{length, get_or, take, drop, take-append-drop}
use lib.Seq.{drop-cons, drop-drop, take-add}
use borrow.Author.Tests.{lt-ltb}
use Rattle.records.specs.Bytes.{Width, two, four, byte_count, num, bytes, Coding, unsigned}
use Rattle.records.specs.Bytes.{twos_complement, capacity, meant, written}
use Rattle.records.specs.Record.{Field, kind_fields, total, numbers, spell, body_of, bytes_of}
use Rattle.records.specs.Record.{numbers_of}
use Rattle.tape.specs.Tape.{walk, step_of, judge, on_step, start, reading_of}
use Rattle.tape.specs.Tape.{records_from, records_of, tape_of, run_of, fields_read}
use Rattle.tape.specs.Fields.{AllBytes}
use Rattle.tape.specs.declared.State.{State}
use Rattle.whole.proofs.Branch.{by_test}
use Rattle.tape.proofs.Walk.{step_whole}
use Rattle.std.specs.Prelude.{Result, Ok, Err}
use Rattle.answer.specs.declared.Refusal.{Refusal}
use Rattle.answer.specs.declared.Refused.{Refused}

-- each element is a byte
abbrev Bytes : List ℕ → Type 0
Bytes l = (i : ℕ) → get_or l i 0 < 256

-- ---- a number
-- the upper half of two's complement is counted down from the top when read and when written, and
-- so comes out as it was
written_meant : (c : Coding) (w : Width) (n : ℕ) → n < capacity w → written w (meant c w n) ≡ n
unfolding meant written
written_meant unsigned w n h = refl
written_meant twos_complement w n h =
    by_test (λ z. written w z ≡ n) (ltb n (capacity w / 2)) (λ t. refl) (λ t. omega arith)

-- the bytes from place k on, of which the first is x
front : (l : List ℕ) (k n : ℕ) {x : ℕ} {xs : List ℕ} → k < length l → x ≡ get_or l k 0
    → xs ≡ take n (drop (suc k) l) → x ∷ xs ≡ take (suc n) (drop k l)
front l k n h e f = rw (drop-cons l k 0 h, e, f)

-- a number that was read is one of its width, and its bytes are those that it was read from
bytes_num : (w : Width) (l : List ℕ) (k : ℕ) → Bytes l → k + byte_count w ≤ length l
    → (num w l k < capacity w) × (bytes w (num w l k) ≡ take (byte_count w) (drop k l))
unfolding num bytes
bytes_num two l k b h =
    let p = b k in
    let q = b (suc k) in (
      omega arith,
      front l k 1 (omega arith) (omega arith)
          (front l (suc k) 0 (omega arith) (omega arith) refl),
    )
bytes_num four l k b h =
    let p = b k in
    let q = b (suc k) in
    let r = b (suc (suc k)) in
    let s = b (suc (suc (suc k))) in (
      omega arith,
      front l k 3 (omega arith) (omega arith) (front l (suc k) 2 (omega arith) (omega arith)
          (front l (suc (suc k)) 1 (omega arith) (omega arith)
          (front l (suc (suc (suc k))) 0 (omega arith) (omega arith) refl))),
    )

-- ---- a record
spell_numbers : (fs : List Field) (l : List ℕ) (k : ℕ) → Bytes l → k + total fs ≤ length l
    → spell fs (numbers fs l k) ≡ take (total fs) (drop k l)
spell_numbers [] l k b h = refl
spell_numbers (f ∷ fs) l k b h =
    let n = bytes_num f.width l k b (omega arith) in
    rw (
      written_meant f.coding _ _ n.0,
      take-add,
      drop-drop,
      n.1,
      spell_numbers fs l (k + byte_count f.width) b (omega arith),
    )

record_bytes : (x : ℕ) (l : List ℕ) → Bytes (x ∷ l) → body_of x ≤ length l
    → bytes_of x (numbers_of x (x ∷ l)) ≡ x ∷ take (body_of x) l
unfolding bytes_of numbers_of body_of
record_bytes x l b h = rw (spell_numbers (kind_fields x) (x ∷ l) 1 b (omega arith))

-- a record that is taken is whole, and so is judged as its fields alone are
taken_whole : (st st' : State) (x : ℕ) (l : List ℕ) → Ok st' ≡ step_of st (x ∷ l)
    → (body_of x ≤ length l) × (Ok st' ≡ judge st x true (numbers_of x (x ∷ l)))
unfolding step_of
taken_whole st st' x l e =
    let h = step_whole st st' (x ∷ l) e in (omega arith, rw (lt-ltb _ _ h) at e)

-- ---- the tape
-- what reads to its end takes its first record, and then reads to its end
pub reads_next : (s : Result State Refusal) (at : ℕ) (f : State → Result State Refused) (a : State)
    → on_step s at f ≡ Ok a → (st : State) × (Ok st ≡ s) × (f st ≡ Ok a)
reads_next (Ok st) at f a e = (st, refl, e)
reads_next (Err n) at f a e = cc

again_from : (st : State) (at n : ℕ) (l : List ℕ) (a : State) → walk st at n l ≡ Ok a
    → (Bytes l → tape_of (records_from n l) ≡ drop n l)
    × (run_of st at (records_from n l) ≡ Ok a)
unfolding walk records_from tape_of run_of
again_from st at zero [] a e = (λ b. refl, e)
again_from st at (suc n) [] a e = (λ b. refl, e)
again_from st at (suc n) (x ∷ l) a e =
    let i = again_from st at n l a e in (λ b. i.0 (λ j. b (suc j)), i.1)
again_from st at zero (x ∷ l) a e =
    let w = reads_next (step_of st (x ∷ l)) at _ a e in
    let t = taken_whole st w.0 x l w.1 in
    let i = again_from w.0 (at + 1 + body_of x) (body_of x) l a w.2 in (
      λ b. rw (record_bytes x l b t.0, i.0 (λ j. b (suc j)), take-append-drop (body_of x) l),
      rw (← t.1) i.1,
    )

-- a tape that reads, written again from its fields, is the same bytes
pub same_bytes : (l : List ℕ) (a : State) → AllBytes l → reading_of l ≡ Ok a
    → tape_of (records_of l) ≡ l
unfolding reading_of
same_bytes l a b e = (again_from start 0 0 l a e).0 b.each

-- and its fields by themselves meet no refusal tried before 8
pub lawful : (l : List ℕ) (a : State) → reading_of l ≡ Ok a
    → fields_read (records_of l) ≡ Ok a
unfolding reading_of
lawful l a e = (again_from start 0 0 l a e).1
