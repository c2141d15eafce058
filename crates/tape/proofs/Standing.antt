-- Where the records of a tape that reads stand: seven bytes a row before the project, the start and
-- the legs after it, and the close at the end. So each field is at a place that the last state and
-- the tape's length tell.
use Prim.Native.Nat.{ℕ, zero, suc, ◌+◌, ◌-◌, ◌*◌, ◌≤◌, ◌<◌}
use native.Mathlib.Omega.{arith}
use mathlib.Core.Path.{◌≡◌, refl, sym, ◌∙◌, ap}
use mathlib.Core.Bool.{true, false}
use mathlib.Core.List.{List, [], ◌∷◌}
use lib.Dec.{eqb}
use lib.IntN.{ℤ}
use lib.ListN.{length}
use borrow.Author.Tests.{eq-eqb, ne_eqb}
use Rattle.whole.specs.declared.Whole.{Whole}
use Rattle.records.specs.Bytes.{two, four, num, meant, unsigned, twos_complement}
use Rattle.records.specs.Record.{Rec, row_kind, project_kind, start_kind, close_kind, kind_fields}
use Rattle.records.specs.Record.{table, body_of}
use Rattle.tape.specs.Tape.{is_leg, start, records_of, reading_of, told_reading}
use Rattle.tape.specs.Fields.{signed_at, number_at, pick, only, place_of, is_row, scale_of, picked}
use Rattle.tape.specs.Fields.{control_of, taken_if, taken_of, told_taken, ReadsTo, DoesRead}
use Rattle.tape.specs.Fields.{fields_of as named}
use Rattle.tape.specs.Legs.{Rest, Legs, last, leg, Order, row as a_row, opens}
use Rattle.tape.specs.declared.State.{State}
use Rattle.tape.specs.declared.Control.{Control}
use Rattle.tape.proofs.Coming as by
use Rattle.tape.proofs.Coming.{Came, came}
use Rattle.tape.proofs.Ordered.{ordered, order_of, no_rows}
use Rattle.tape.proofs.Picks.{pick_yes, pick_no, apart_leg, skips, place_on, place_here}
use Rattle.tape.proofs.Picks.{place_skips, only_first}
use Rattle.tape.proofs.Rest.{offset, field_at, whole_there, rest_start, rest_next, last_there}
use Rattle.tape.proofs.Rest.{value_there, number_there}
use Rattle.tape.proofs.Round.{lawful}
use Rattle.tape.proofs.Rows.{Runs, done, more, runs}
use Rattle.std.specs.Prelude.{Result, Ok, Err}
use Rattle.answer.specs.declared.Refused.{Refused}
use Rattle.tape.specs.declared.Phase.TheVariants.{AtRows, Closed}

-- the place after a record of kind k
after : (tape : List ℕ) (at k p : ℕ) (r : Rec) (rs : List Rec) → Rest tape at (r ∷ rs)
    → r.kind ≡ k → p ≡ at + 1 + body_of k → Rest tape p rs
after tape at k p r rs h e f = rw (f, ← e) (rest_next tape at r rs h)

-- ---- the project, the start, and where the line begins
record Found (tape : List ℕ) (rs : List Rec) (at q : ℕ) : Type 0 where
  p : Rec
  ps : List Rec
  project : Rest tape q (p ∷ ps)
  one : p.kind ≡ project_kind
  is_project : only project_kind rs ≡ p
  s : Rec
  ss : List Rec
  begins : Rest tape (q + 5) (s ∷ ss)
  begins_kind : s.kind ≡ start_kind
  is_start : only start_kind rs ≡ s
  line : place_of is_leg at rs ≡ q + 18

found : (tape : List ℕ) {rs : List Rec} → Order rs → (at q : ℕ) → Rest tape at rs
    → q ≡ at + 7 * length (pick (eqb row_kind) rs)
    → Found tape rs at q
unfolding body_of kind_fields table
found tape (a_row r {rs} e o) at q h f =
    let i = found tape o (at + 7) q (after tape at row_kind (at + 7) r rs h e (omega arith))
    (rw (pick_yes (eqb row_kind) r rs (eq-eqb row_kind r.kind (sym e))) at f ∙ omega arith) in
    record {
      p = i.p;
      ps = i.ps;
      project = i.project;
      one = i.one;
      is_project = rw (skips (eqb project_kind) row_kind r rs e refl) i.is_project;
      s = i.s;
      ss = i.ss;
      begins = i.begins;
      begins_kind = i.begins_kind;
      is_start = rw (skips (eqb start_kind) row_kind r rs e refl) i.is_start;
      line = place_skips is_leg row_kind r rs e refl at (at + 7) (omega arith) ∙ i.line;
    }
found tape (opens p s l {rs} one second is legs) at q h f =
    let none = no_rows (leg l is legs) in
    let no_project = skips (eqb row_kind) project_kind p (s ∷ l ∷ rs) one refl in
    let no_start = skips (eqb row_kind) start_kind s (l ∷ rs) second refl in
    let here : q ≡ at = f ∙ rw (no_project, no_start, none) (omega arith) in
    let g = after tape at project_kind (at + 5) p (s ∷ l ∷ rs) h one (omega arith) in
    rw here
    (record {
      p = p;
      ps = s ∷ l ∷ rs;
      project = h;
      one = one;
      is_project = only_first project_kind p (s ∷ l ∷ rs) one;
      s = s;
      ss = l ∷ rs;
      begins = g;
      begins_kind = second;
      is_start =
          rw (skips (eqb start_kind) project_kind p (s ∷ l ∷ rs) one refl)
          (only_first start_kind s (l ∷ rs) second);
      line =
          place_skips is_leg project_kind p (s ∷ l ∷ rs) one refl at (at + 5) (omega arith)
          ∙ place_skips is_leg start_kind s (l ∷ rs) second refl (at + 5) (at + 18) (omega arith)
          ∙ place_here is_leg l rs (at + 18) is;
    })

-- ---- the close, which ends the tape
record Shut (tape : List ℕ) (rs : List Rec) (at : ℕ) : Type 0 where
  c : Rec
  place : ℕ
  close : Rest tape place (c ∷ [])
  four_is : c.kind ≡ close_kind
  is_close : only close_kind rs ≡ c
  placed : place_of (eqb close_kind) at rs ≡ place

-- past a record of another kind
shut_on : (tape : List ℕ) (at : ℕ) (r : Rec) (rs : List Rec) → eqb close_kind r.kind ≡ false
    → Shut tape rs (at + 1 + body_of r.kind) → Shut tape (r ∷ rs) at
shut_on tape at r rs f i =
    record {
      c = i.c;
      place = i.place;
      close = i.close;
      four_is = i.four_is;
      is_close = rw (pick_no (eqb close_kind) r rs f) i.is_close;
      placed = place_on (eqb close_kind) r rs at f ∙ i.placed;
    }

shut_legs : (tape : List ℕ) {rs : List Rec} → Legs rs → (at : ℕ) → Rest tape at rs → Shut tape rs at
shut_legs tape (last r e) at h =
    record {
      c = r;
      place = at;
      close = h;
      four_is = e;
      is_close = only_first close_kind r [] e;
      placed = place_here (eqb close_kind) r [] at (eq-eqb close_kind r.kind (sym e));
    }
shut_legs tape (leg r {rs} e l) at h =
    shut_on tape at r rs (apart_leg r.kind close_kind e refl)
    (shut_legs tape l _ (rest_next tape at r rs h))

shut : (tape : List ℕ) {rs : List Rec} → Order rs → (at : ℕ) → Rest tape at rs → Shut tape rs at
shut tape (a_row r {rs} e o) at h =
    shut_on tape at r rs (rw e) (shut tape o _ (rest_next tape at r rs h))
shut tape (opens p s l {rs} one second is legs) at h =
    let g = rest_next tape at p (s ∷ l ∷ rs) h in
    let line = shut_legs tape (leg l is legs) _ (rest_next tape _ s (l ∷ rs) g) in
    shut_on tape at p (s ∷ l ∷ rs) (rw one) (shut_on tape _ s (l ∷ rs) (rw second) line)

-- ---- the row of a latitude is as many rows on as its minute is above the first. After the project
-- no row comes
still_by : {st u : State} {k : ℕ} {vs : List ℤ} → Came st k vs u → (st.phase ≡ AtRows → ⊥)
    → (u.phase ≡ AtRows → ⊥) × (st.rows ≡ u.rows)
still_by (by.row k p f n e) h = absurd (h p)
still_by (by.project k p i e) h = absurd (h p)
still_by (by.start k p e) h = rw e (λ x. cc, refl)
still_by (by.leg k p f e) h = rw e (λ x. cc, refl)
still_by (by.close k p e) h = rw e (λ x. cc, refl)

still : {st end : State} {rs : List Rec} → Runs st rs end → (st.phase ≡ AtRows → ⊥)
    → st.rows ≡ end.rows
still done h = refl
still (more {st} {st'} {r = r} e p) h =
    let i = still_by (came st st' r.kind true r.values e) h in i.1 ∙ still p i.0

module _ (tape : List ℕ) (end : State) (m : ℕ) where
  -- the records rs, read from st on, have the row of the minute m as the j-th from here, at the
  -- place at
  abbrev Scaled : State → List Rec → Type 0
  Scaled st rs =
      (j at p : ℕ) → Rest tape at rs → m + end.rows ≡ end.next + st.rows + j
      → st.rows + j < end.rows → p ≡ at + 7 * j + 3 → scale_of m rs ≡ num four tape p

  row_scale : (st u : State) (r : Rec) (rs : List Rec) → r.kind ≡ row_kind → u.rows ≡ st.rows + 1
      → number_at r 0 + end.rows ≡ end.next + st.rows
      → Scaled u rs → Scaled st (r ∷ rs)
  unfolding scale_of is_row body_of kind_fields table
  row_scale st u r rs e f g ih zero at p h due low place =
      rw (eq-eqb r.kind row_kind e, eq-eqb (number_at r 0) m (omega arith))
      (number_there tape at r rs h row_kind 1 p e (omega arith) refl (omega arith))
  row_scale st u r rs e f g ih (suc j) at p h due low place =
      rw (ne_eqb (number_at r 0) m (λ z. omega arith), eq-eqb r.kind row_kind e)
      (ih j (at + 7) p (after tape at row_kind (at + 7) r rs h e (omega arith)) (omega arith)
      (omega arith) (omega arith))

  too_late : (st u : State) {r : Rec} (rs : List Rec) → Runs u rs end → u.rows ≡ st.rows
      → (u.phase ≡ AtRows → ⊥) → Scaled st (r ∷ rs)
  too_late st u rs run rows phase j at p h due low place = absurd (omega (arith, still run phase))

  scale_by : {st u : State} {r : Rec} {rs : List Rec} → Came st r.kind r.values u
      → Runs u rs end → end.phase ≡ Closed
      → (u.phase ≡ AtRows → Scaled u rs) → Scaled st (r ∷ rs)
  scale_by {st} {u} {r} {rs} (by.row k p f n e) run shut ih =
      let o = ordered run shut (rw e) in
      let rows = ap (λ (x : State). x.rows) e in
      let next = ap (λ (x : State). x.next) e in
      let on = o.next (omega arith) in
      row_scale st u r rs k rows (omega arith) (ih (rw e))
  scale_by {st} {u} {rs = rs} (by.project k p i e) run shut ih =
      too_late st u rs run (rw e) (rw e (λ x. cc))
  scale_by {st} {u} {rs = rs} (by.start k p e) run shut ih =
      too_late st u rs run (rw e) (rw e (λ x. cc))
  scale_by {st} {u} {rs = rs} (by.leg k p f e) run shut ih =
      too_late st u rs run (rw e) (rw e (λ x. cc))
  scale_by {st} {u} {rs = rs} (by.close k p e) run shut ih =
      too_late st u rs run (rw e) (rw e (λ x. cc))

  scale_run : {st : State} {rs : List Rec} → Runs st rs end → end.phase ≡ Closed
      → st.phase ≡ AtRows → Scaled st rs
  scale_run done f h = cc
  scale_run (more {st} {st'} {r = r} {rs = rs} e p) f h =
      scale_by {st = st} {u = st'} {r = r} {rs = rs} (came st st' r.kind true r.values e) p f
      (λ x j at q g due low place. scale_run p f x j at q g due low place)

-- ---- a tape that reads, by the last state and its length
module _ (tape : List ℕ) (last : State) (to : ReadsTo tape last) where
  abbrev does : DoesRead tape
  does = record { last = last; reads = to.reads }

  opening : Found tape (records_of tape) 0 (last.rows * 7)
  opening =
      found tape (order_of tape does).order 0 _ (rest_start tape to.bytes does)
      (omega (arith, (order_of tape does).rows))

  closing : Shut tape (records_of tape) 0
  closing = shut tape (order_of tape does).order 0 (rest_start tape to.bytes does)

  pub long : last.rows * 7 + 18 ≤ length tape
  unfolding body_of kind_fields table
  long =
      let b = opening in
      omega (
        arith,
        rw b.begins_kind at (whole_there tape (last.rows * 7 + 5) b.s b.ss b.begins),
      )

  close_long : closing.place + 17 ≡ length tape
  unfolding body_of kind_fields table
  close_long =
      let c = closing in
      omega (arith, rw c.four_is at (last_there tape c.place c.c c.close))

  pub ends : 17 ≤ length tape
  ends = omega (arith, close_long)

  -- the latitude, and its row
  module _ (m : ℕ) (e : m ≡ num two tape (last.rows * 7 + 1)) where
    latitude_is : number_at (only project_kind (records_of tape)) 0 ≡ m
    unfolding kind_fields table
    latitude_is =
        let b = opening in
        rw (b.is_project, e)
        (number_there tape _ b.p b.ps b.project project_kind 0 _ b.one (omega arith) refl
        (omega arith))

    pub row_high : m < last.next
    row_high = rw (← latitude_is) (order_of tape does).held.0

    pub row_low : last.next - m ≤ last.rows
    row_low = rw (← latitude_is) (let h = (order_of tape does).held.1 in omega arith)

    -- the factor stands in the row that is as many rows on as the latitude is above the first
    scale_is : scale_of m (records_of tape) ≡ num four tape ((last.rows - (last.next - m)) * 7 + 3)
    scale_is =
        let run = runs start 0 (records_of tape) last (lawful tape last to.reads) in
        let high = row_high in
        let low = row_low in
        scale_run tape last m run.0 run.1 refl (last.rows - (last.next - m)) 0 _
        (rest_start tape to.bytes does) (omega arith) (omega arith) (omega arith)

  legs_are : length (pick is_leg (records_of tape)) ≡ last.legs
  legs_are = omega (arith, (order_of tape does).legs)

  elevation_is : signed_at (only project_kind (records_of tape)) 1
      ≡ meant twos_complement two (num two tape (last.rows * 7 + 3))
  unfolding kind_fields table
  elevation_is =
      let b = opening in
      rw b.is_project
      (value_there tape _ b.p b.ps b.project project_kind 1 _ b.one (omega arith)
      (omega arith))

  -- the numbers of the start and of the close
  begins_number : (i p : ℕ) → i < length (kind_fields start_kind)
      → (field_at (kind_fields start_kind) i).coding ≡ unsigned
      → p ≡ last.rows * 7 + 5 + 1 + offset (kind_fields start_kind) i
      → number_at (only start_kind (records_of tape)) i ≡ num
      (field_at (kind_fields start_kind) i).width tape p
  begins_number i p low c e =
      let b = opening in
      rw b.is_start
      (number_there tape _ b.s b.ss b.begins start_kind i p b.begins_kind low c e)

  closes_number : (i p : ℕ) → i < length (kind_fields close_kind)
      → (field_at (kind_fields close_kind) i).coding ≡ unsigned
      → p ≡ closing.place + 1 + offset (kind_fields close_kind) i
      → number_at (only close_kind (records_of tape)) i ≡ num
      (field_at (kind_fields close_kind) i).width tape p
  closes_number i p low c e =
      let b = closing in
      rw b.is_close (number_there tape _ b.c [] b.close close_kind i p b.four_is low c e)

  -- what the code takes from the places is the fields
  pub control_is : (at project begin line row : ℕ) (elevation : Whole)
      (latitude scale north east mark to_north to_east given : ℕ)
      → project ≡ last.rows * 7 → begin ≡ project + 5 → line ≡ begin + 13
      → at ≡ length tape - 17
      → row ≡ (last.rows - (last.next - latitude)) * 7
      → latitude ≡ num two tape (project + 1)
      → elevation.v ≡ meant twos_complement two (num two tape (project + 3))
      → scale ≡ num four tape (row + 3)
      → north ≡ num four tape (begin + 1) → east ≡ num four tape (begin + 5)
      → mark ≡ num four tape (begin + 9)
      → to_north ≡ num four tape (at + 5) → to_east ≡ num four tape (at + 9)
      → given ≡ num four tape (at + 13)
      → record {
        legs = last.legs;
        line = line;
        elevation = elevation;
        scale = scale;
        from = record { north = north; east = east };
        mark = mark;
        to = record { north = to_north; east = to_east };
        given = given;
        place = at;
      } ≡ control_of (named tape)
  unfolding picked kind_fields table
  control_is at project begin line row elevation latitude scale north east mark to_north to_east
      given p a b c r d' e' f' g h i j k l =
      let d : latitude ≡ num two tape (last.rows * 7 + 1) = rw p at d' in
      let e : elevation.v ≡ meant twos_complement two (num two tape (last.rows * 7 + 3))
      = rw p at e' in
      let f : scale ≡ num four tape ((last.rows - (last.next - latitude)) * 7 + 3) = rw r at f' in
      let close : at ≡ closing.place = omega (arith, close_long) in
      let begins : line ≡ last.rows * 7 + 18 = omega arith in
      let high : elevation ≡ record {
        v = meant twos_complement two (num two tape (last.rows * 7 + 3));
      } = rw (← e) in
      rw (
        legs_are,
        opening.line,
        closing.placed,
        elevation_is,
        latitude_is latitude d,
        scale_is latitude d,
        begins_number 0 (begin + 1) (omega arith) refl (omega arith),
        begins_number 1 (begin + 5) (omega arith) refl (omega arith),
        begins_number 2 (begin + 9) (omega arith) refl (omega arith),
        closes_number 1 (at + 5) (omega arith) refl (omega arith),
        closes_number 2 (at + 9) (omega arith) refl (omega arith),
        closes_number 3 (at + 13) (omega arith) refl (omega arith),
        high,
        begins,
        f,
        g,
        h,
        i,
        j,
        k,
        l,
        close,
      )

-- the tape is as long as the places of the fields need, and the row of the latitude is one of its
-- rows
pub ruleset places = (long, ends, row_high, row_low)

-- ---- the answer
-- what is taken tells the number and the place of the reading
pub taken_tells : (tape : List ℕ)
    → ((told_taken (taken_of tape)).number ≡ (told_reading (reading_of tape)).number)
    × ((told_taken (taken_of tape)).place ≡ (told_reading (reading_of tape)).place)
unfolding taken_of
taken_tells tape = go (reading_of tape)
  where
    go : (r : Result State Refused)
        → ((told_taken (taken_if r (named tape))).number ≡ (told_reading r).number)
        × ((told_taken (taken_if r (named tape))).place ≡ (told_reading r).place)
    go (Ok st) = (refl, refl)
    go (Err x) = (refl, refl)

-- ---- and what a caller learns from it: the tape reads, and the control is its own, or the reading
-- is the refusal
pub took : (tape : List ℕ) (c : Control) → taken_of tape ≡ Ok c
    → DoesRead tape × (c ≡ control_of (named tape))
unfolding taken_of
took tape c = go (reading_of tape) refl
  where
    go : (r : Result State Refused) → reading_of tape ≡ r → taken_if r (named tape) ≡ Ok c
        → DoesRead tape × (c ≡ control_of (named tape))
    go (Ok st) e h = (record { last = st; reads = e }, cc)
    go (Err x) e h = cc

pub took_not : (tape : List ℕ) (x : Refused) → taken_of tape ≡ Err x → reading_of tape ≡ Err x
unfolding taken_of
took_not tape x = go (reading_of tape) refl
  where
    go : (r : Result State Refused) → reading_of tape ≡ r → taken_if r (named tape) ≡ Err x
        → reading_of tape ≡ Err x
    go (Ok st) e h = cc
    go (Err y) e h = e ∙ cc
