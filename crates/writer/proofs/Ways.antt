-- The writer of a record: what it lends on is the part from the place on, so that a record written
-- at its front stands at the place once the part is back. Its ways out are three, no room, a
-- field out of range, and written, and `search wrote` finds the way.
use Prim.Native.Nat.{ℕ, ◌+◌, ◌-◌, ◌≤◌, ◌<◌}
use native.Mathlib.Omega.{arith}
use mathlib.Core.Path.{◌≡◌, ap}
use mathlib.Core.List.{List, ◌++◌, append-nil}
use mathlib.Core.Bool.{Bool, true, false}
use lib.Dec.{T, eqb, eqb→eq}
use lib.ListN.{length, take, drop, length-take, length-drop, drop_of_length-le}
use lib.Seq.{take_all, drop-drop}
use borrow.Author.Tests.{le-leb, lt-leb}
use borrow.Rule.Slice.PartMut.{put_mid}
use Rattle.records.specs.declared.Record.{Record}
use Rattle.std.proofs.Common.{Result, Ok}
use Rattle.answer.specs.declared.Refused.{Refused}
use Rattle.answer.specs.declared.Refusal.TheVariants.{NoRoom, OutOfRange}
use Rattle.records.specs.Record.{bytes_of_record}
use Rattle.records.proofs.Bodies.{length_given, room_given}
use Rattle.writer.specs.Write.{Wrote, answer_of, left_of, unwritten, told_written}

-- ---- the part from the place on, lent to the writer of the case found
module _ (given found : Record) (e : given ≡ found) (out : List ℕ) (place : ℕ) where
  -- it has room for the record
  pub lent : (m : ℕ) → T (eqb m (length (bytes_of_record found)))
      → place + length (bytes_of_record given) ≤ length out
      → m ≤ length (take (length out - place) (drop place out))
  lent m t room = rw (eqb→eq m _ t, ← e) (simp (length-take, length-drop) (omega arith))

  -- with the record at its front it is put back, and the record is at its place
  pub back : (part : List ℕ)
      → part ≡ bytes_of_record found ++ drop (length (bytes_of_record found))
      (take (length out - place) (drop place out))
      → put_mid place (length out - place) out part ≡ take place out ++
      (bytes_of_record given ++ drop (place + length (bytes_of_record given)) out)
  back part p =
      let a : length (drop place out) ≤ length out - place = omega (arith, length-drop place out) in
      let rest = take_all (length out - place) (drop place out) a in
      let none = drop_of_length-le (drop place out) a in
      rw (e, p, rest, none, append-nil, drop-drop)

-- ---- the ways out; n is the length of the record's bytes, and room what is left for them
module _ (out : List ℕ) (place : ℕ) (good : Bool) (bytes : List ℕ) where
  owed : {out' : List ℕ} {r : Result ℕ Refused} → r ≡ answer_of out place good bytes
      → out' ≡ left_of out place good bytes → Wrote out out' place good bytes r
  owed e f = record { answer = e; tells = ap told_written e; left = f }

  pub short : (n room : ℕ) → length bytes ≡ n → room ≡ length out - place → room < n
      → Wrote out out place good bytes (unwritten NoRoom 0)
  unfolding answer_of left_of
  short n room e is h =
      let l : length out < place + length bytes = omega arith in
      owed (rw (lt-leb _ _ l)) (rw (lt-leb _ _ l))

  module _ (fits : place + length bytes ≤ length out) (f : Bool) (is : f ≡ good) where
    pub bad : f ≡ false → Wrote out out place good bytes (unwritten OutOfRange place)
    unfolding answer_of left_of
    bad h = owed (rw (le-leb _ _ fits, ← is, h)) (rw (le-leb _ _ fits, ← is, h))

    pub done : (n : ℕ) (out' : List ℕ) → length bytes ≡ n
        → out' ≡ take place out ++ (bytes ++ drop (place + length bytes) out) → f ≡ true
        → Wrote out out' place good bytes (Ok (place + n))
    unfolding answer_of left_of
    done n out' e p h =
        owed (rw (le-leb _ _ fits, ← is, h, e)) (rw (le-leb _ _ fits, ← is, h) p)

pub ruleset wrote = (short, bad, done, length_given, room_given)
