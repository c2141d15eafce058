-- What refusal 7 means: the rows read so far have exactly the minutes from next less rows up to
-- next, so that the reader, which keeps only these two numbers, refuses a latitude with 7 exactly
-- where no row has it. It is true because each row but the first has the minute next, and adds
-- just that.
use Prim.Native.Nat.{ℕ, ◌-◌, ◌<◌}
use native.Mathlib.Nat.{eq-or-lt_of_le}
use native.Mathlib.Omega.{arith}
use mathlib.Core.Path.{◌≡◌, refl, sym, subst}
use mathlib.Core.List.{List, [], ◌∷◌}
use mathlib.Core.Bool.{true, cond}
use mathlib.Core.Logic.Iff
use mathlib.Core.Logic.{◌↔◌, ◌⊎◌, inl, inr, ⊎_elim}
use lib.Dec.{ltb, leb}
use lib.IntN.{ℤ}
use borrow.Author.Tests.{ltb-true, ltb-false, leb-true, leb-false}
use Rattle.records.specs.Record.{Rec, row_kind}
use Rattle.tape.specs.Tape.{with_row, project_next, minute_of, start, run_of}
use Rattle.tape.specs.Tape.{judge, is_closed, refused_at}
use Rattle.tape.specs.declared.State.{State}
use Rattle.whole.proofs.Branch.{cond_and, by_test}
use Rattle.tape.proofs.Round.{reads_next}
use Rattle.tape.proofs.Walk.{no}
use Rattle.tape.proofs.Coming.{In, Came, came, stopped}
use Rattle.tape.proofs.Coming as by
use Rattle.std.specs.Prelude.{Result, Ok, Err}
use Rattle.answer.specs.declared.Refusal.{Refusal}
use Rattle.answer.specs.declared.Refusal.TheVariants.{CutShort, NoRow}
use Rattle.tape.specs.declared.Phase.{Phase}
use Rattle.tape.specs.declared.Phase.TheVariants.{AtRows, AfterProject, LineBegun, AfterLeg, Closed}

-- the records rs, each taken, lead from st to st''
pub data Runs : State → List Rec → State → Type 0 where
  done : {st : State} → Runs st [] st
  more : {st st' st'' : State} {r : Rec} {rs : List Rec}
      → Ok st' ≡ judge st r.kind true r.values → Runs st' rs st'' → Runs st (r ∷ rs) st''

-- a tape that reads is such a run, to the close
pub runs : (st : State) (at : ℕ) (rs : List Rec) (last : State) → run_of st at rs ≡ Ok last
    → Runs st rs last × (last.phase ≡ Closed)
unfolding run_of
runs st at [] last e =
    ended st.phase refl e
  where
    ended : (p : Phase) → st.phase ≡ p
        → cond (is_closed p) (Ok st) (refused_at CutShort at) ≡ Ok last
        → Runs st [] last × (last.phase ≡ Closed)
    ended Closed c e = let same : st ≡ last = cc in rw (← same) (done, c)
    ended AtRows c e = cc
    ended AfterProject c e = cc
    ended LineBegun c e = cc
    ended AfterLeg c e = cc
runs st at (r ∷ rs) last e =
    let w = reads_next (judge st r.kind true r.values) at _ last e in
    let i = runs w.0 _ rs last w.2 in
    (more w.1 i.0, i.1)

-- a record that is a row of the minute m, and records among which there is one
abbrev pub Row : ℕ → ℕ → List ℤ → Type 0
Row m k vs = (k ≡ row_kind) × (minute_of vs ≡ m)

abbrev pub Has : ℕ → List Rec → Type 0
Has m [] = ⊥
Has m (r ∷ rs) = Row m r.kind r.values ⊎ Has m rs

-- ---- a record: u holds the minutes of st, and that of the record if it is a row
module _ (st : State) (k : ℕ) (vs : List ℤ) (m : ℕ) where
  abbrev Adds : State → Type 0
  Adds u = In u m ↔ (In st m ⊎ Row m k vs)

  -- a row that is not the first has the minute next
  row_adds : k ≡ row_kind → (0 < st.rows → minute_of vs ≡ st.next)
      → Adds (with_row st (minute_of vs))
  row_adds e follows = (
    λ i. ⊎_elim (λ f. inr (e, sym f)) (λ h. let f = follows (omega arith) in inl (omega arith))
        (eq-or-lt_of_le (omega arith)),
    ⊎_elim (λ i. let f = follows (omega arith) in omega arith) (λ r. omega arith),
  )

  -- any other record keeps the two numbers
  same_adds : (k ≡ row_kind → ⊥) → Adds st
  same_adds h = (inl, ⊎_elim (λ i. i) (λ r. absurd (h r.0)))

  pub taken_adds : (u : State) → Came st k vs u → Adds u
  taken_adds u (by.row e p low follows to) = subst Adds (sym to) (row_adds e follows)
  taken_adds u (by.project e p i to) = subst Adds (sym to) (same_adds (λ f. omega arith))
  taken_adds u (by.start e p to) = subst Adds (sym to) (same_adds (λ f. omega arith))
  taken_adds u (by.leg t p low to) = subst Adds (sym to) (same_adds (λ f. no (rw f at t)))
  taken_adds u (by.close e p to) = subst Adds (sym to) (same_adds (λ f. omega arith))

-- ---- all the records
rows_run : {st u : State} {rs : List Rec} (m : ℕ) → Runs st rs u → In u m ↔ (In st m ⊎ Has m rs)
rows_run m done = (inl, ⊎_elim (λ i. i) absurd)
rows_run m (more {st} {st'} {r = r} e p) =
    let adds = taken_adds st _ _ m st' (came st st' r.kind true r.values e) in
    let rest = rows_run m p in (
      λ i. ⊎_elim (λ j. ⊎_elim inl (λ y. inr (inl y)) (adds.0 j)) (λ y. inr (inr y)) (rest.0 i),
      λ i. rest.1 (⊎_elim (λ j. inl (adds.1 (inl j)))
          (⊎_elim (λ j. inl (adds.1 (inr j))) inr) i),
    )

-- after the records rs from the start on, the two numbers hold a minute exactly where a row of rs
-- has it
pub rows_mean : (st : State) (rs : List Rec) (m : ℕ) → Runs start rs st → In st m ↔ Has m rs
rows_mean st rs m p =
    let run = rows_run m p in
    (λ i. ⊎_elim (λ j. absurd (omega arith)) (λ y. y) (run.0 i), λ y. run.1 (inr y))

-- ---- refusal 7 is given where the two numbers do not hold the latitude
not_held : (st : State) (m : ℕ) → (project_next st m ≡ Err NoRow) ↔ (¬ In st m)
unfolding project_next
not_held st m =
    let P : Result State Refusal → Type 0 = λ s. (s ≡ Err NoRow) ↔ (¬ In st m) in
    rw cond_and (by_test P (ltb m st.next)
    (λ t. by_test P (leb (st.next - m) st.rows)
    (λ u. (stopped, λ out. absurd (out (omega (arith, ltb-true, leb-true)))))
    (λ u. (λ e i. omega (arith, leb-false), λ out. refl)))
    (λ t. (λ e i. omega (arith, ltb-false), λ out. refl)))

-- and so exactly where no row has it
pub no_row_lem : (st : State) (rs : List Rec) (m : ℕ) → Runs start rs st
    → (project_next st m ≡ Err NoRow) ↔ (¬ Has m rs)
no_row_lem st rs m p = Iff.trans (not_held st m) (Iff.not (rows_mean st rs m p))
