-- Writing, then reading: fields that no refusal tried before 8 meets, written as a tape, read back
-- as the same fields. It is true because every range of the table lies within what its field can
-- write, so that each number comes back from its bytes, and a record has as many bytes as its kind
-- says.
use Prim.Native.Nat.{ℕ, ◌+◌, ◌-◌, ◌/◌, ◌≤◌, ◌<◌}
use native.Mathlib.Omega.{arith}
use native.Mathlib.Nat.{add_comm, add_right_comm, div-div-eq-div-mul}
use mathlib.Core.Path.{◌≡◌, refl, ◌∙◌}
use mathlib.Core.List.{List, [], ◌∷◌, ◌++◌, append_assoc}
use mathlib.Core.Bool.{true, ◌&&◌, and-eq-true_iff}
use lib.Dec.{eqb}
use lib.IntN.{ℤ, pos, negsuc}
use lib.ListN.{length, drop, length-append}
use lib.Seq.{drop_at}
use lib.Signed.{le_z, le_z_yes, lt_z_yes}
use borrow.Author.Tests.{lt-ltb, le-ltb}
use Rattle.whole.specs.Order.{◌≤ᶻ◌, ◌<ᶻ◌}
use Rattle.whole.proofs.Diff.{int}
use Rattle.records.specs.Bytes.{Width, two, four, byte_count, num, bytes, Coding, unsigned}
use Rattle.records.specs.Bytes.{twos_complement, capacity, meant, written}
use Rattle.records.specs.Record.{Field, Kind, Rec, table, look, kind_fields, total, numbers}
use Rattle.records.specs.Record.{in_ranges}
use Rattle.records.specs.Record.{spell, body_of, good_of, bytes_of, numbers_of}
use Rattle.tape.specs.Tape.{walk, step_of, judge, start, reading_of, records_from}
use Rattle.tape.specs.Tape.{records_of, tape_of, run_of, fields_read}
use Rattle.tape.specs.declared.State.{State}
use Rattle.tape.proofs.Numbers.{num_drop}
use Rattle.tape.proofs.Walk.{passed}
use Rattle.whole.proofs.Branch.{by_test}
use Rattle.tape.proofs.Round.{reads_next}
use Rattle.std.specs.Prelude.{Ok}

-- ---- what a field can write: the numbers above its floor and below its ceiling
abbrev floor : Coding → Width → ℤ
floor unsigned w = negsuc 0
floor twos_complement w = negsuc (capacity w / 2)

abbrev ceiling : Coding → Width → ℤ
ceiling unsigned w = pos (capacity w)
ceiling twos_complement w = pos (capacity w / 2)

-- what is written of such a number is one of its width, and is meant as the number again
meant_written : (c : Coding) (w : Width) (z : ℤ) → floor c w <ᶻ z → z <ᶻ ceiling c w
    → (written w z < capacity w) × (meant c w (written w z) ≡ z)
unfolding meant written
meant_written unsigned w (pos n) g h = (omega int, refl)
meant_written unsigned w (negsuc n) g h = absurd (omega int)
meant_written twos_complement w (pos n) g h =
    let lower : n < capacity w / 2 = omega int in
    (omega arith, rw (lt-ltb _ _ lower))
meant_written twos_complement w (negsuc n) g h =
    let upper : capacity w / 2 ≤ capacity w - 1 - n = omega int in
    let same : capacity w - 1 - (capacity w - 1 - n) ≡ n = omega int in
    (omega int, rw (le-ltb _ _ upper, same))

-- ---- every range of the table lies within that
abbrev Fits : Field → Type 0
Fits f = (floor f.coding f.width <ᶻ f.low) × (f.high <ᶻ ceiling f.coding f.width)

abbrev Fit : List Field → Type 0
Fit [] = Unit {0}
Fit (f ∷ fs) = Fits f × Fit fs

abbrev AllFit : List Kind → Type 0
AllFit [] = Unit {0}
AllFit (r ∷ rows) = Fit r.fields × AllFit rows

-- each range is compared as it stands in the table, so that a new row costs nothing here
table_fits : AllFit table
unfolding table
table_fits = search lt_z_yes

look_fits : (rows : List Kind) (k : ℕ) → AllFit rows → Fit (look rows k)
look_fits [] k h = tt
look_fits (r ∷ rows) k h = by_test Fit (eqb k r.kind) (λ t. h.0) (λ t. look_fits rows k h.1)

-- ---- so a number in range comes back
abbrev InRange : Field → ℤ → Type 0
InRange f z = (le_z f.low z && le_z z f.high) ≡ true

first_and_rest : (f : Field) (fs : List Field) (v : ℤ) (vs : List ℤ)
    → in_ranges (f ∷ fs) (v ∷ vs) ≡ true → InRange f v × (in_ranges fs vs ≡ true)
first_and_rest f fs v vs e =
    (and-eq-true_iff (le_z f.low v && le_z v f.high) (in_ranges fs vs)).0 e

in_range_lem : (f : Field) (z : ℤ) → Fits f → InRange f z
    → (written f.width z < capacity f.width) ×
    (meant f.coding f.width (written f.width z) ≡ z)
in_range_lem f z fits e =
    let i = (and-eq-true_iff (le_z f.low z) (le_z z f.high)).0 e in
    let low : f.low ≤ᶻ z = le_z_yes (rw i.0 tt) in
    let high : z ≤ᶻ f.high = le_z_yes (rw i.1 tt) in
    meant_written f.coding f.width z (omega int) (omega int)

-- ---- a number and its bytes
length_bytes : (w : Width) (n : ℕ) → length (bytes w n) ≡ byte_count w
unfolding bytes
length_bytes two n = refl
length_bytes four n = refl

-- the four digits are taken off one at a time, which is how `omega` can follow them
num_bytes : (w : Width) (n : ℕ) (l : List ℕ) → n < capacity w → num w (bytes w n ++ l) 0 ≡ n
unfolding num bytes
num_bytes two n l h = omega arith
num_bytes four n l h =
    rw (← div-div-eq-div-mul n 65536 256, ← div-div-eq-div-mul n 256 256) (omega arith)

-- ---- a record and its bytes
-- the numbers from place k + n on are those from place k on of the rest; past the bytes of one
-- number, those of what follows it
numbers_drop : (fs : List Field) (n : ℕ) (l : List ℕ) (k : ℕ)
    → numbers fs l (k + n) ≡ numbers fs (drop n l) k
numbers_drop [] n l k = refl
numbers_drop (f ∷ fs) n l k =
    rw (
      num_drop,
      add_comm n k,
      add_right_comm k n (byte_count f.width),
      numbers_drop fs n l (k + byte_count f.width),
    )

numbers_past : (fs : List Field) (w : Width) (n : ℕ) (l : List ℕ)
    → numbers fs (bytes w n ++ l) (0 + byte_count w) ≡ numbers fs l 0
numbers_past fs w n l =
    rw (
      numbers_drop fs (byte_count w) (bytes w n ++ l) 0,
      drop_at (bytes w n) l (byte_count w) (length_bytes w n),
    )

numbers_spell : (fs : List Field) (vs : List ℤ) (l : List ℕ) → Fit fs → in_ranges fs vs ≡ true
    → numbers fs (spell fs vs ++ l) 0 ≡ vs
numbers_spell [] [] l h e = refl
numbers_spell [] (v ∷ vs) l h e = cc
numbers_spell (f ∷ fs) [] l h e = cc
numbers_spell (f ∷ fs) (v ∷ vs) l h e =
    let t = first_and_rest f fs v vs e in
    let i = in_range_lem f v h.0 t.0 in
    let m = spell fs vs ++ l in
    rw (
      append_assoc,
      num_bytes _ _ m i.0,
      i.1,
      numbers_past fs f.width _ m,
      numbers_spell fs vs l h.1 t.1,
    )

length_spell : (fs : List Field) (vs : List ℤ) → in_ranges fs vs ≡ true
    → length (spell fs vs) ≡ total fs
length_spell [] vs e = refl
length_spell (f ∷ fs) [] e = cc
length_spell (f ∷ fs) (v ∷ vs) e =
    rw (length-append, length_bytes, length_spell fs vs (first_and_rest f fs v vs e).1)

-- bytes p that are still to pass are passed over
past : (p l : List ℕ)
    → ((st : State) (at : ℕ) → walk st at (length p) (p ++ l) ≡ walk st at 0 l) ×
    (records_from (length p) (p ++ l) ≡ records_from 0 l)
unfolding walk records_from
past [] l = (λ st at. refl, refl)
past (x ∷ p) l = past p l

-- a record whose numbers are in range, with anything after it
module _ (k : ℕ) (vs : List ℤ) (l : List ℕ) (good : good_of k vs ≡ true) where
  pub length_body : length (spell (kind_fields k) vs) ≡ body_of k
  unfolding body_of good_of
  length_body = length_spell (kind_fields k) vs good

  pub numbers_back : numbers_of k (bytes_of k vs ++ l) ≡ vs
  unfolding numbers_of bytes_of good_of kind_fields
  numbers_back =
      numbers_drop (kind_fields k) 1 (bytes_of k vs ++ l) 0 ∙ numbers_spell (kind_fields k) vs l
      (look_fits table k table_fits) good

  step_back : (st : State) → step_of st (bytes_of k vs ++ l) ≡ judge st k true vs
  unfolding step_of bytes_of
  step_back st =
      let whole : body_of k < length (bytes_of k vs ++ l) =
      omega (arith, length-append (bytes_of k vs) l, length_body) in
      rw (lt-ltb _ _ whole, numbers_back)

  walk_back : (st st' : State) (at : ℕ) → Ok st' ≡ judge st k true vs
      → walk st at 0 (bytes_of k vs ++ l) ≡ walk st' (at + 1 + body_of k) 0 l
  unfolding walk bytes_of
  walk_back st st' at e =
      rw (step_back st, ← e, ← length_body) ((past (spell (kind_fields k) vs) l).0 st' _)

  records_back : records_from 0 (bytes_of k vs ++ l) ≡ record {
    kind = k;
    values = vs;
  } ∷ records_from 0 l
  unfolding records_from bytes_of
  records_back = rw (numbers_back, ← length_body, (past (spell (kind_fields k) vs) l).1)

-- ---- the tape
back_from : (rs : List Rec) (st : State) (at : ℕ) (a : State) → run_of st at rs ≡ Ok a
    → (walk st at 0 (tape_of rs) ≡ Ok a) × (records_from 0 (tape_of rs) ≡ rs)
unfolding run_of tape_of
back_from [] st at a e = unfold walk records_from in (e, refl)
back_from (r ∷ rs) st at a e =
    let k = r.kind in
    let vs = r.values in
    let w = reads_next (judge st k true vs) at _ a e in
    let good = (passed st w.0 k true vs w.1).ok in
    let i = back_from rs w.0 (at + 1 + body_of k) a w.2 in (
      walk_back k vs (tape_of rs) good st w.0 at w.1 ∙ i.0,
      rw (records_back k vs (tape_of rs) good, i.1),
    )

-- fields that no refusal tried before 8 meets, written as a tape, read back as the same fields
pub same_records : (rs : List Rec) (a : State) → fields_read rs ≡ Ok a
    → (reading_of (tape_of rs) ≡ Ok a) × (records_of (tape_of rs) ≡ rs)
unfolding reading_of
same_records rs a e = back_from rs start 0 a e
