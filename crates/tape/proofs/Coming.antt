-- What a record that is taken does to the reader's state, by the kinds of records. The laws about
-- states go by these cases.
use Prim.Native.Nat.{ℕ, ◌+◌, ◌-◌, ◌≤◌, ◌<◌}
use native.Mathlib.Omega.{arith}
use mathlib.Core.Path.{◌≡◌, refl}
use mathlib.Core.List.{List}
use mathlib.Core.Logic.{inl, inr}
use mathlib.Core.Bool.{Bool, true, false, cond, ◌&&◌, ◌||◌, and-eq-true_iff}
use lib.Dec.{eqb, ltb, leb}
use lib.IntN.{ℤ}
use borrow.Author.Tests.{ltb-true, leb-true, eqb-true, ne_eqb}
use Rattle.records.specs.Record.{row_kind, project_kind, start_kind, close_kind}
use Rattle.tape.specs.Tape.{is_leg}
use Rattle.answer.specs.Limit.{most_legs}
use Rattle.tape.specs.Tape.{most_rows, comes_in, may_come, room_of, in_phase, with_row, with_leg}
use Rattle.tape.specs.Tape.{row_next, project_next, minute_of, after_of, judge}
use Rattle.tape.specs.Passing.{InLine}
use Rattle.tape.specs.declared.State.{State}
use Rattle.whole.proofs.Branch.{by_test, either}
use Rattle.tape.proofs.Picks.{leg_apart}
use Rattle.tape.proofs.Walk.{no, passed}
use Rattle.std.specs.Prelude.{Some, None, Result, Ok, Err}
use Rattle.answer.specs.declared.Refusal.{Refusal}
use Rattle.answer.specs.declared.Refusal.TheVariants.{BadRows, TooManyLegs}
use Rattle.tape.specs.declared.Phase.{Phase}
use Rattle.tape.specs.declared.Phase.TheVariants.{AtRows, AfterProject, LineBegun, AfterLeg, Closed}

pub stopped : {A : Type 0} {u : State} {n : Refusal} → Ok u ≡ Err n → A
stopped e = cc

-- a minute that the two numbers of a state hold
abbrev pub In : State → ℕ → Type 0
In st m = (m < st.next) × (st.next ≤ m + st.rows)

-- a record of kind k may come in the state st, and there is room for it
pub data Due (st : State) (k : ℕ) : Type 0 where
  row : k ≡ row_kind → st.phase ≡ AtRows → st.rows < most_rows → Due st k
  project : k ≡ project_kind → st.phase ≡ AtRows → Due st k
  start : k ≡ start_kind → st.phase ≡ AfterProject → Due st k
  leg : is_leg k ≡ true → InLine st → st.legs < most_legs → Due st k
  close : k ≡ close_kind → st.phase ≡ AfterLeg → Due st k

-- a record of kind k with the numbers vs, taken in the state st, leads to u
pub data Came (st : State) (k : ℕ) (vs : List ℤ) (u : State) : Type 0 where
  row : k ≡ row_kind → st.phase ≡ AtRows → st.rows < most_rows
      → (0 < st.rows → minute_of vs ≡ st.next) → u ≡ with_row st (minute_of vs) → Came st k vs u
  project : k ≡ project_kind → st.phase ≡ AtRows → In st (minute_of vs)
      → u ≡ in_phase AfterProject st → Came st k vs u
  start : k ≡ start_kind → st.phase ≡ AfterProject → u ≡ in_phase LineBegun st → Came st k vs u
  leg : is_leg k ≡ true → InLine st → st.legs < most_legs → u ≡ with_leg st → Came st k vs u
  close : k ≡ close_kind → st.phase ≡ AfterLeg → u ≡ in_phase Closed st → Came st k vs u

module _ (st : State) (k : ℕ) where
  -- where a limit is kept there is room
  room : (b : Bool) (n : Refusal) → cond b None (Some n) ≡ None → b ≡ true
  room true n e = refl
  room false n e = cc

  row_room : k ≡ row_kind → room_of st k ≡ None → st.rows < most_rows
  unfolding room_of
  row_room e r = ltb-true _ _ (room (ltb st.rows most_rows) BadRows (rw e at r))

  leg_room : is_leg k ≡ true → room_of st k ≡ None → st.legs < most_legs
  unfolding room_of
  leg_room t r =
      ltb-true _ _ (room (ltb st.legs most_legs) TooManyLegs
      (rw (leg_apart k row_kind t refl, t) at r))

  due_in : (p : Phase) → st.phase ≡ p → comes_in p k ≡ true → room_of st k ≡ None → Due st k
  due_in AtRows e m r =
      either (eqb k row_kind) (eqb k project_kind)
      (λ t. let f = eqb-true k row_kind t in row f e (row_room f r))
      (λ t. project (eqb-true k project_kind t) e)
      m
  due_in AfterProject e m r = start (eqb-true k start_kind m) e
  due_in LineBegun e m r = leg m (inl e) (leg_room m r)
  due_in AfterLeg e m r =
      either (is_leg k) (eqb k close_kind)
      (λ t. leg t (inr e) (leg_room t r))
      (λ t. close (eqb-true k close_kind t) e)
      m
  due_in Closed e m r = no m

  pub due : may_come st k ≡ true → room_of st k ≡ None → Due st k
  unfolding may_come
  due m r = due_in st.phase refl m r

  module _ (vs : List ℤ) (u : State) where
    abbrev To : Result State Refusal → Type 0
    To s = Ok u ≡ s → Came st k vs u

    came_due : Due st k → To (after_of st k vs)
    unfolding after_of row_next project_next
    came_due (row e p low) n =
        by_test To (eqb st.rows 0 || eqb (minute_of vs) st.next)
        (λ t n. row e p low (λ h. eqb-true _ _ (rw (ne_eqb st.rows 0 (omega arith)) at t)) cc)
        (λ t. stopped)
        (rw e at n)
    came_due (project e p) n =
        let m = minute_of vs in
        by_test To (ltb m st.next && leb (st.next - m) st.rows)
        (λ t n. let i = (and-eq-true_iff (ltb m st.next) _).0 t in
        let under = leb-true (st.next - m) st.rows i.1 in
        project e p (ltb-true _ _ i.0, omega arith) cc)
        (λ t. stopped)
        (rw e at n)
    came_due (start e p) n = let f = rw e at n in start e p cc
    came_due (leg t p low) n =
        let a : (m : ℕ) → is_leg m ≡ false → eqb k m ≡ false = λ m f. leg_apart k m t f in
        let f = rw (a row_kind refl, a project_kind refl, a start_kind refl, t) at n in
        leg t p low cc
    came_due (close e p) n = let f = rw e at n in close e p cc

pub came : (st u : State) (k : ℕ) (q : Bool) (vs : List ℤ) → Ok u ≡ judge st k q vs
    → Came st k vs u
came st u k q vs e =
    let t = passed st u k q vs e in
    came_due st k vs u (due st k t.comes t.room) t.next
