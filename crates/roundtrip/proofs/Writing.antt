-- Good records written one after the other are their tape, if it has room: each `write` answers the
-- place after its record, so that the next one stands there, and no other byte changes.
use Prim.Native.Nat.{ℕ, ◌+◌, ◌≤◌}
use native.Mathlib.Omega.{arith}
use native.Mathlib.Nat.{add-zero, zero-add}
use mathlib.Core.Path.{◌≡◌, refl, sym, ◌∙◌, ap}
use mathlib.Core.Bool.{Bool, true}
use mathlib.Core.List.{List, [], ◌∷◌, ◌++◌, append_assoc}
use lib.ListN.{length, take, drop, take-append-drop, length-append, length-drop}
use lib.Seq.{length-take-le, take_at, drop_at, drop-drop}
use borrow.Author.Tests.{le-leb}
use Rattle.std.specs.Prelude.{Result, Ok, Err}
use Rattle.answer.specs.declared.Refused.{Refused}
use Rattle.records.specs.declared.Record.{Record}
use Rattle.records.specs.Record.{good_record, bytes_of_record}
use Rattle.writer.specs.Write.{Wrote, answer_of, left_of, told_written}
use Rattle.tape.specs.Tape.{tape_of}
use Rattle.tape.specs.Legs.{Good}
use Rattle.roundtrip.specs.Writes.{Writes, none, next, stop, recs, Leaves}

-- ---- a tape stands at a place of the bytes, no other byte is changed, and the answer is the place
-- after it
record Placed (tape out : List ℕ) (at : ℕ) (left : List ℕ) (w : Result ℕ Refused) : Type 0 where
  answer : w ≡ Ok (at + length tape)
  bytes : left ≡ take at out ++ (tape ++ drop (at + length tape) out)

module _ (out mid : List ℕ) (at : ℕ) (b : List ℕ) where
  -- a good record that has room is placed by `write`
  placed_one : (good : Bool) (w : Result ℕ Refused) → Wrote out mid at good b w → good ≡ true
      → at + length b ≤ length out → Placed b out at mid w
  unfolding answer_of left_of
  placed_one good w h g room =
      let fits = le-leb _ _ room in
      record { answer = h.answer ∙ rw (fits, g); bytes = h.left ∙ rw (fits, g) }

  -- the bytes b, and then a tape t placed after them, are the one tape b ++ t placed
  module _ (v : Result ℕ Refused) (one : Placed b out at mid v)
      (room : at + length b ≤ length out) where
    front : length (take at out ++ b) ≡ at + length b
    front = omega (arith, length-append (take at out) b, length-take-le at out (omega arith))

    split : mid ≡ (take at out ++ b) ++ drop (at + length b) out
    split = one.bytes ∙ sym (append_assoc (take at out) b _)

    same_length : length mid ≡ length out
    same_length =
        omega (
          arith,
          ap length split,
          length-append (take at out ++ b) (drop (at + length b) out),
          front,
          length-drop (at + length b) out,
        )

    placed_more : (t left : List ℕ) (w : Result ℕ Refused) → Placed t mid (at + length b) left w
        → Placed (b ++ t) out at left w
    placed_more t left w p =
        let m = at + length b in
        let end : at + length (b ++ t) ≡ m + length t = omega (arith, length-append b t) in
        let before : take m mid ≡ take at out ++ b
        = rw split (take_at (take at out ++ b) _ m front) in
        let rest : drop m mid ≡ drop m out = rw split (drop_at (take at out ++ b) _ m front) in
        let after : drop (m + length t) mid ≡ drop (m + length t) out
        = rw (← drop-drop (length t) m mid, rest) (drop-drop (length t) m out) in
        record {
          answer = p.answer ∙ ap Ok (sym end);
          bytes =
              p.bytes
              ∙ rw (before, after, end, append_assoc (take at out) b _, append_assoc b t _);
        }

placed : {out left : List ℕ} {at : ℕ} {rs : List Record} {w : Result ℕ Refused}
    → Writes out at rs left w → Good (recs rs) → at + length (tape_of (recs rs)) ≤ length out
    → Placed (tape_of (recs rs)) out at left w
unfolding tape_of
placed {out} {at = at} none g room =
    record {
      answer = ap Ok (sym (add-zero at));
      bytes = rw (add-zero at) (sym (take-append-drop at out));
    }
placed {out} {left} {at} (next {mid = mid} {n = n} r {rs} {w} h more) g room =
    let b = bytes_of_record r in
    let t = tape_of (recs rs) in
    let long = length-append b t in
    let fits : at + length b ≤ length out = omega arith in
    let one = placed_one out mid at b (good_record r) (Ok n) h g.0 fits in
    let e : n ≡ at + length b = let a = one.answer in cc in
    let same = same_length out mid at b (Ok n) one fits in
    placed_more out mid at b (Ok n) one fits t left w
    (rw e at (placed more g.1 (omega arith)))
placed {out} {left} {at} (stop {x = x} r {rs} h) g room =
    let b = bytes_of_record r in
    let fits : at + length b ≤ length out = omega (arith, length-append b (tape_of (recs rs))) in
    let a = (placed_one out left at b (good_record r) (Err x) h g.0 fits).answer in
    cc

-- ---- the records of a tape, from the first place on
pub written_tape : (rs : List Record) (out left : List ℕ) (w : Result ℕ Refused) → Good (recs rs)
    → length (tape_of (recs rs)) ≤ length out → Writes out 0 rs left w
    → Leaves (tape_of (recs rs)) out left w
written_tape rs out left w g room h =
    let p = placed h g (omega arith) in
    record { answer = rw zero-add at p.answer; bytes = rw zero-add at p.bytes }

-- ---- there always is such a writing, since `write` answers any record at any place
pub writing : (out : List ℕ) (at : ℕ) (rs : List Record)
    → (left : List ℕ) × (w : Result ℕ Refused) × Writes out at rs left w
writing out at [] = (out, Ok at, none)
writing out at (r ∷ rs) =
    go (answer_of out at (good_record r) (bytes_of_record r)) refl (λ mid n. writing mid n rs)
  where
    mid : List ℕ
    mid = left_of out at (good_record r) (bytes_of_record r)

    owes : (w : Result ℕ Refused) → answer_of out at (good_record r) (bytes_of_record r) ≡ w
        → Wrote out mid at (good_record r) (bytes_of_record r) w
    owes w e = record { answer = sym e; tells = ap told_written (sym e); left = refl }

    go : (x : Result ℕ Refused) → answer_of out at (good_record r) (bytes_of_record r) ≡ x
        → ((mid : List ℕ) (n : ℕ)
        → (left : List ℕ) × (w : Result ℕ Refused) × Writes mid n rs left w)
        → (left : List ℕ) × (w : Result ℕ Refused) × Writes out at (r ∷ rs) left w
    go (Ok n) e more =
        let i = more mid n in (i.0, i.1, next r (owes (Ok n) e) i.2)
    go (Err x) e more = (mid, Err x, stop r (owes (Err x) e))
