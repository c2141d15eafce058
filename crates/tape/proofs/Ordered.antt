-- The records of a tape that reads stand in the rules' order, and the last state counts them. The
-- proof goes by what a record that is taken does to the reader's state.
use Prim.Native.Nat.{ℕ, ◌+◌, ◌≤◌, ◌<◌}
use native.Mathlib.Omega.{arith}
use mathlib.Core.Path.{◌≡◌, refl, sym, ◌∙◌, ap}
use mathlib.Core.Bool.{true}
use mathlib.Core.Logic.{⊎_elim, inl, inr}
use mathlib.Core.List.{List, [], ◌∷◌}
use lib.Dec.{eqb}
use lib.IntN.{ℤ}
use lib.ListN.{length}
use borrow.Author.Tests.{eq-eqb}
use Rattle.records.specs.Record.{Rec, row_kind, project_kind, start_kind, close_kind}
use Rattle.tape.specs.Tape.{is_leg}
use Rattle.tape.specs.Tape.{in_phase, with_row, minute_of, start, records_of}
use Rattle.tape.specs.Fields.{number_at, pick, only, DoesRead}
use Rattle.tape.specs.Legs.{Legs, last, leg, Order, row as a_row, opens}
use Rattle.tape.specs.Passing.{InLine}
use Rattle.tape.specs.declared.State.{State}
use Rattle.tape.proofs.Coming.{In, Came, row, project, start as begins, leg as a_leg, close}
use Rattle.tape.proofs.Coming.{came}
use Rattle.tape.proofs.Picks.{pick_yes, pick_no, apart_leg, skips, only_first}
use Rattle.tape.proofs.Round.{lawful}
use Rattle.tape.proofs.Rows.{Runs, done, more, runs}
use Rattle.tape.specs.declared.Phase.{Phase}
use Rattle.tape.specs.declared.Phase.TheVariants.{AtRows, AfterProject, LineBegun, AfterLeg, Closed}

-- a state in the line is in no other phase
not_in : (st : State) {A : Type 0} {p : Phase} → InLine st → st.phase ≡ p → (p ≡ LineBegun → ⊥)
    → (p ≡ AfterLeg → ⊥) → A
not_in st h e a b =
    ⊎_elim (λ (x : st.phase ≡ LineBegun). absurd (a (sym e ∙ x)))
    (λ (x : st.phase ≡ AfterLeg). absurd (b (sym e ∙ x)))
    h

-- ---- after the close nothing comes
no_more : {st u : State} {k : ℕ} {vs : List ℤ} → Came st k vs u → st.phase ≡ Closed → ⊥
no_more (row k p f n e) h = cc
no_more (project k p i e) h = cc
no_more (begins k p e) h = cc
no_more {st} (a_leg k p f e) h = not_in st p h (λ x. cc) (λ x. cc)
no_more (close k p e) h = cc

ends : {st u : State} {rs : List Rec} → Runs st rs u → st.phase ≡ Closed → (rs ≡ []) × (st ≡ u)
ends done h = (refl, refl)
ends (more {st} {st'} {r = r} e p) h = absurd (no_more (came st st' r.kind true r.values e) h)

-- ---- the legs and the close, with as many legs as the last state counts; rows and minutes stand
-- still
record Lined (st : State) (rs : List Rec) (end : State) : Type 0 where
  legs : Legs rs
  counted : st.legs + length (pick is_leg rs) ≡ end.legs
  few : st.legs ≤ 64 → end.legs ≤ 64
  rows : st.rows ≡ end.rows
  next : st.next ≡ end.next

module _ (st u end : State) (r : Rec) (rs : List Rec) where
  line_leg : is_leg r.kind ≡ true → st.legs < 64 → u.legs ≡ st.legs + 1 → u.rows ≡ st.rows
      → u.next ≡ st.next → Lined u rs end
      → Lined st (r ∷ rs) end
  line_leg is room legs rows next i =
      record {
        legs = leg r is i.legs;
        counted = rw (pick_yes is_leg r rs is) (omega (arith, i.counted));
        few = λ h. i.few (omega arith);
        rows = sym rows ∙ i.rows;
        next = sym next ∙ i.next;
      }

  line_close : r.kind ≡ close_kind → u.legs ≡ st.legs → u.rows ≡ st.rows → u.next ≡ st.next
      → rs ≡ [] → u ≡ end
      → Lined st (r ∷ rs) end
  unfolding pick
  line_close is legs rows next none e =
      rw (none, ← e)
      (record {
        legs = last r is;
        counted = rw (skips is_leg close_kind r [] is refl) (omega arith);
        few = λ h. omega arith;
        rows = sym rows;
        next = sym next;
      })

lined_by : {st u end : State} {r : Rec} {rs : List Rec} → Came st r.kind r.values u
    → InLine st → Runs u rs end
    → (InLine u → Lined u rs end) → Lined st (r ∷ rs) end
lined_by {st} {u} {end} {r} {rs} (a_leg k p f e) h run ih =
    line_leg st u end r rs k f (rw e) (rw e) (rw e) (ih (inr (rw e)))
lined_by {st} {u} {end} {r} {rs} (close k p e) h run ih =
    let i = ends run (rw e) in line_close st u end r rs k (rw e) (rw e) (rw e) i.0 i.1
lined_by {st} (row k p f n e) h run ih = not_in st h p (λ x. cc) (λ x. cc)
lined_by {st} (project k p i e) h run ih = not_in st h p (λ x. cc) (λ x. cc)
lined_by {st} (begins k p e) h run ih = not_in st h p (λ x. cc) (λ x. cc)

lined : {st end : State} {rs : List Rec} → Runs st rs end → end.phase ≡ Closed → InLine st
    → Lined st rs end
lined {st} done e h = not_in st h e (λ x. cc) (λ x. cc)
lined (more {st} {st'} {r = r} e p) f h =
    lined_by (came st st' r.kind true r.values e) h p (lined p f)

-- ---- from the start on a leg comes, and from the project on the start
record Started (st : State) (rs : List Rec) (end : State) : Type 0 where
  l : Rec
  ls : List Rec
  is : rs ≡ l ∷ ls
  leg : is_leg l.kind ≡ true
  rest : Legs ls
  lined : Lined st rs end

started_by : {st u end : State} {r : Rec} {rs : List Rec} → Came st r.kind r.values u
    → st.phase ≡ LineBegun → Lined st (r ∷ rs) end
    → (InLine u → Lined u rs end) → Started st (r ∷ rs) end
started_by {r = r} {rs} (a_leg k p f e) h i ih =
    record { l = r; ls = rs; is = refl; leg = k; rest = (ih (inr (rw e))).legs; lined = i }
started_by (close k p e) h i ih = cc
started_by (row k p f n e) h i ih = cc
started_by (project k p n e) h i ih = cc
started_by (begins k p e) h i ih = cc

started : {st end : State} {rs : List Rec} → Runs st rs end → end.phase ≡ Closed
    → st.phase ≡ LineBegun → Started st rs end
started done e h = cc
started (more {st} {st'} {r = r} e p) f h =
    started_by (came st st' r.kind true r.values e) h (lined (more e p) f (inl h)) (lined p f)

record Begun (st : State) (rs : List Rec) (end : State) : Type 0 where
  s : Rec
  ss : List Rec
  is : rs ≡ s ∷ ss
  kind : s.kind ≡ start_kind
  u : State
  same : u ≡ in_phase LineBegun st
  started : Started u ss end

begun_by : {st u end : State} {r : Rec} {rs : List Rec} → Came st r.kind r.values u
    → st.phase ≡ AfterProject
    → (u.phase ≡ LineBegun → Started u rs end) → Begun st (r ∷ rs) end
begun_by {u = u} {r = r} {rs} (begins k p e) h i =
    record { s = r; ss = rs; is = refl; kind = k; u = u; same = e; started = i (rw e) }
begun_by {st} (a_leg k p f e) h i = not_in st p h (λ x. cc) (λ x. cc)
begun_by (close k p e) h i = cc
begun_by (row k p f n e) h i = cc
begun_by (project k p n e) h i = cc

begun : {st end : State} {rs : List Rec} → Runs st rs end → end.phase ≡ Closed
    → st.phase ≡ AfterProject → Begun st rs end
begun done e h = cc
begun (more {st} {st'} {r = r} e p) f h =
    begun_by (came st st' r.kind true r.values e) h (started p f)

-- ---- the whole
pub no_rows : {rs : List Rec} → Legs rs → length (pick (eqb row_kind) rs) ≡ 0
unfolding pick
no_rows (last r e) = rw e
no_rows (leg r {rs} e l) =
    rw (pick_no (eqb row_kind) r rs (apart_leg r.kind row_kind e refl)) (no_rows l)

pub record Ordered (st : State) (rs : List Rec) (end : State) : Type 0 where
  pub order : Order rs
  pub legs : st.legs + length (pick is_leg rs) ≡ end.legs
  pub few : st.legs ≤ 64 → end.legs ≤ 64
  pub rows : st.rows + length (pick (eqb row_kind) rs) ≡ end.rows
  pub next : 0 < st.rows → st.next + end.rows ≡ end.next + st.rows
  pub held : In end (number_at (only project_kind rs) 0)

module _ (st u end : State) (r : Rec) (rs : List Rec) where
  order_row : r.kind ≡ row_kind → (0 < st.rows → minute_of r.values ≡ st.next)
      → u ≡ with_row st (minute_of r.values)
      → Ordered u rs end → Ordered st (r ∷ rs) end
  order_row five follows e i =
      let legs = ap (λ (x : State). x.legs) e in
      let rows = ap (λ (x : State). x.rows) e in
      let next = ap (λ (x : State). x.next) e in
      let on = i.next (omega arith) in
      record {
        order = a_row r five i.order;
        legs = rw (skips is_leg row_kind r rs five refl) (omega (arith, i.legs));
        few = λ h. i.few (omega arith);
        rows =
            rw (pick_yes (eqb row_kind) r rs (eq-eqb row_kind r.kind (sym five)))
            (omega (arith, i.rows));
        next = λ h. omega (arith, follows h);
        held = rw (skips (eqb project_kind) row_kind r rs five refl) i.held;
      }

  order_opens : r.kind ≡ project_kind → In st (minute_of r.values) → u ≡ in_phase AfterProject st
      → Begun u rs end
      → Ordered st (r ∷ rs) end
  order_opens one held e b =
      let g = b.started in
      let i = g.lined in
      let s = b.s in
      let l = g.l in
      let all : rs ≡ s ∷ l ∷ g.ls = b.is ∙ rw g.is in
      let same : b.u ≡ in_phase LineBegun st = b.same ∙ rw e in
      let legs = ap (λ (x : State). x.legs) same in
      let rows = ap (λ (x : State). x.rows) same in
      let next = ap (λ (x : State). x.next) same in
      let n = no_rows i.legs in
      record {
        order = rw all (opens r s l one b.kind g.leg g.rest);
        legs =
            rw (
              skips is_leg project_kind r rs one refl,
              b.is,
              skips is_leg start_kind s b.ss b.kind refl,
            ) (omega (arith, i.counted));
        few = λ h. i.few (omega arith);
        rows =
            rw (
              skips (eqb row_kind) project_kind r rs one refl,
              b.is,
              skips (eqb row_kind) start_kind s b.ss b.kind refl,
            )
            (omega (arith, i.rows));
        next = λ h. omega (arith, i.rows, i.next);
        held =
            rw (only_first project_kind r rs one)
            (omega (arith, i.next), omega (arith, i.next, i.rows));
      }

ordered_by : {st u end : State} {r : Rec} {rs : List Rec} → Came st r.kind r.values u
    → st.phase ≡ AtRows
    → (u.phase ≡ AtRows → Ordered u rs end) → (u.phase ≡ AfterProject → Begun u rs end)
    → Ordered st (r ∷ rs) end
ordered_by {st} {u} {end} {r} {rs} (row k p f n e) h rows opened =
    order_row st u end r rs k n e (rows (rw e))
ordered_by {st} {u} {end} {r} {rs} (project k p i e) h rows opened =
    order_opens st u end r rs k i e (opened (rw e))
ordered_by (begins k p e) h rows opened = cc
ordered_by {st} (a_leg k p f e) h rows opened = not_in st p h (λ x. cc) (λ x. cc)
ordered_by (close k p e) h rows opened = cc

pub ordered : {st end : State} {rs : List Rec} → Runs st rs end → end.phase ≡ Closed
    → st.phase ≡ AtRows → Ordered st rs end
ordered done e h = cc
ordered (more {st} {st'} {r = r} e p) f h =
    ordered_by (came st st' r.kind true r.values e) h (ordered p f) (begun p f)

pub order_of : (tape : List ℕ) (d : DoesRead tape) → Ordered start (records_of tape) d.last
order_of tape d =
    let run = runs start 0 (records_of tape) d.last (lawful tape d.last d.reads) in
    ordered run.0 run.1 refl
