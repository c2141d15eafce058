-- Every record of a tape that reads is one that `write` can be given: its numbers are what its
-- bytes say, natural numbers but for the elevation, and below what two or four bytes can count.
use Prim.Native.Nat.{ℕ}
use native.Mathlib.Omega.{arith}
use mathlib.Core.Path.{◌≡◌, refl, ap}
use mathlib.Core.Bool.{true}
use mathlib.Core.List.{List, [], ◌∷◌, ◌++◌}
use lib.IntN.{ℤ, pos}
use Rattle.whole.proofs.Machine.{sfits}
use Rattle.records.specs.declared.Record.{Record}
use Rattle.records.specs.declared.Record.TheVariants as kinds
use Rattle.records.specs.Bytes.{two, four, num, bytes, twos_complement, meant, written}
use Rattle.records.specs.Record.{Rec, rec, row_kind, project_kind, start_kind, leg_kind, close_kind}
use Rattle.records.specs.Record.{table, kind_fields, numbers_of, good_of, bytes_of, rec_of}
use Rattle.records.specs.Record.{good_record}
use Rattle.records.proofs.Bodies.{project_feet}
use Rattle.tape.specs.Tape.{records_of}
use Rattle.tape.specs.Fields.{number_at, DoesRead}
use Rattle.tape.specs.Legs.{Good, Legs, last, leg, Order, row, opens}
use Rattle.tape.proofs.Back.{numbers_back}
use Rattle.tape.proofs.Ordered.{order_of}
use Rattle.tape.proofs.Picks.{by_leg}
use Rattle.tape.proofs.Rest.{good_records}
use Rattle.roundtrip.specs.Writes.{recs, Held, AllHeld, Writable}

-- ---- each kind, by the numbers that the record's bytes say
abbrev Made : ℕ → Type 0
Made k = (vs : List ℤ) → good_of k vs ≡ true → (r : Record) × (rec_of r ≡ rec k vs)

row_made : Made row_kind
unfolding rec_of numbers_of kind_fields table meant
row_made vs g =
    let b = bytes_of row_kind vs ++ [] in
    (kinds.Row (num two b 1) (num four b 3), ap (rec row_kind) (numbers_back row_kind vs [] g))

project_made : Made project_kind
unfolding rec_of numbers_of kind_fields table
project_made vs g =
    let b = bytes_of project_kind vs ++ [] in (
      kinds.Project (num two b 1) (record { v = meant twos_complement two (num two b 3) }),
      unfold meant in (ap (rec project_kind) (numbers_back project_kind vs [] g)),
    )

start_made : Made start_kind
unfolding rec_of numbers_of kind_fields table meant
start_made vs g =
    let b = bytes_of start_kind vs ++ [] in (
      kinds.Start (num four b 1) (num four b 5) (num four b 9),
      ap (rec start_kind) (numbers_back start_kind vs [] g),
    )

leg_made : Made leg_kind
unfolding rec_of numbers_of kind_fields table meant
leg_made vs g =
    let b = bytes_of leg_kind vs ++ [] in
    (kinds.Leg (num four b 1) (num four b 5), ap (rec leg_kind) (numbers_back leg_kind vs [] g))

close_made : Made close_kind
unfolding rec_of numbers_of kind_fields table meant
close_made vs g =
    let b = bytes_of close_kind vs ++ [] in (
      kinds.Close (num four b 1) (num four b 5) (num four b 9) (num four b 13),
      ap (rec close_kind) (numbers_back close_kind vs [] g),
    )

-- ---- a record in range holds numbers of its types: each comes back from its two or four bytes
number_back : (k : ℕ) (vs : List ℤ) → good_of k vs ≡ true → (i : ℕ)
    → number_at (rec k (numbers_of k (bytes_of k vs ++ []))) i ≡ number_at (rec k vs) i
number_back k vs g i = ap (λ (l : List ℤ). number_at (rec k l) i) (numbers_back k vs [] g)

held : (r : Record) → good_record r ≡ true → Held r
unfolding rec_of numbers_of bytes_of kind_fields table num bytes meant written
held (kinds.Row m f) g =
    let back = number_back row_kind (pos m ∷ pos f ∷ []) g in
    (omega (arith, back 0), omega (arith, back 1))
held (kinds.Project m e) g =
    let back = number_back project_kind (pos m ∷ e.v ∷ []) g in (
      omega (arith, back 0),
      sfits e.v (omega (arith, project_feet (kinds.Project m e) m e refl g)),
    )
held (kinds.Start n e m) g =
    let back = number_back start_kind (pos n ∷ pos e ∷ pos m ∷ []) g in
    (omega (arith, back 0), omega (arith, back 1), omega (arith, back 2))
held (kinds.Leg a d) g =
    let back = number_back leg_kind (pos a ∷ pos d ∷ []) g in
    (omega (arith, back 0), omega (arith, back 1))
held (kinds.Close a n e m) g =
    let back = number_back close_kind (pos a ∷ pos n ∷ pos e ∷ pos m ∷ []) g in
    (omega (arith, back 0), omega (arith, back 1), omega (arith, back 2), omega (arith, back 3))

all_held : (rs : List Record) → Good (recs rs) → AllHeld rs
all_held [] g = tt
all_held (r ∷ rs) g = (held r g.0, all_held rs g.1)

-- ---- records in the rules' order, each in range
abbrev Made_all : List Rec → Type 0
Made_all rs = (given : List Record) × (recs given ≡ rs)

with_next : (r : Rec) {rs : List Rec} → Made r.kind → good_of r.kind r.values ≡ true
    → Made_all rs → Made_all (r ∷ rs)
with_next r make g i =
    let x = make r.values g in (x.0 ∷ i.0, rw (x.1, i.1))

legs_made : {rs : List Rec} → Legs rs → Good rs → Made_all rs
legs_made (last r e) g = with_next r (rw e close_made) g.0 ([], refl)
legs_made (leg r is legs) g =
    with_next r (by_leg Made leg_made r.kind is) g.0 (legs_made legs g.1)

order_made : {rs : List Rec} → Order rs → Good rs → Made_all rs
order_made (row r e o) g = with_next r (rw e row_made) g.0 (order_made o g.1)
order_made (opens p s l one second is legs) g =
    with_next p (rw one project_made) g.0
    (with_next s (rw second start_made) g.1.0
    (with_next l (by_leg Made leg_made l.kind is) g.1.1.0 (legs_made legs g.1.1.1)))

pub writable : (tape : List ℕ) → DoesRead tape → Writable (records_of tape)
writable tape d =
    let g = good_records tape d in
    let m = order_made (order_of tape d).order g in
    record {
      records = m.0;
      same = m.1;
      good = g;
      held = all_held m.0 (rw m.1 g);
    }
