-- The row that counts is the only one: of the rows of a tape that reads exactly one has the mean
-- latitude, and its factor is the tape's. It is true because each row but the first has the minute
-- after the last one held, so that no minute comes twice.
use Prim.Native.Nat.{ℕ}
use native.Mathlib.Omega.{arith}
use mathlib.Core.Path.{◌≡◌, refl, sym, ◌∙◌, ap}
use mathlib.Core.Bool.{Bool, true, false, cond, and-eq-true_iff}
use mathlib.Core.List.{List, [], ◌∷◌}
use mathlib.Core.Logic.{inl, inr}
use lib.Dec.{eqb}
use lib.IntN.{ℤ}
use lib.ListN.{length}
use borrow.Author.Tests.{eqb-true, eq-eqb}
use Rattle.records.specs.Record.{Rec, row_kind}
use Rattle.tape.specs.Tape.{start, records_of}
use Rattle.tape.specs.Fields.{number_at, is_row, scale_of, picked, fields_of, DoesRead}
use Rattle.tape.specs.declared.State.{State}
use Rattle.tape.proofs.Coming.{In, Came, came}
use Rattle.tape.proofs.Coming as by
use Rattle.tape.proofs.Ordered.{order_of}
use Rattle.tape.proofs.Round.{lawful}
use Rattle.tape.proofs.Rows.{Runs, done, more, runs, Row, Has, taken_adds, rows_mean}
use Rattle.tape.proofs.Walk.{no}

-- the rows of a minute, in their order
unfoldable pub rows_of : ℕ → List Rec → List Rec
rows_of m [] = []
rows_of m (r ∷ rs) = cond (is_row m r) (r ∷ rows_of m rs) (rows_of m rs)

-- among these records one row alone has the minute, and its factor is the one that counts
pub record OneRow (m : ℕ) (rs : List Rec) : Type 0 where
  pub row : Rec
  pub only : rows_of m rs ≡ row ∷ []
  pub scale : scale_of m rs ≡ number_at row 1

-- ---- the test of a row, and what it tells
module _ (m : ℕ) (r : Rec) where
  row_test : Row m r.kind r.values → is_row m r ≡ true
  unfolding is_row
  row_test h = rw (eq-eqb r.kind row_kind h.0, eq-eqb (number_at r 0) m h.1)

  test_row : is_row m r ≡ true → Row m r.kind r.values
  unfolding is_row
  test_row t =
      let i = (and-eq-true_iff (eqb r.kind row_kind) (eqb (number_at r 0) m)).0 t in
      (eqb-true r.kind row_kind i.0, eqb-true (number_at r 0) m i.1)

-- ---- a minute that is held does not come again
not_again : {st u : State} {k : ℕ} {vs : List ℤ} (m : ℕ) → Came st k vs u → In st m → ¬ Row m k vs
not_again m (by.row e p low follows to) i h = let f = follows (omega arith) in omega arith
not_again m (by.project e p j to) i h = omega arith
not_again m (by.start e p to) i h = omega arith
not_again m (by.leg t p low to) i h = no (rw h.0 at t)
not_again m (by.close e p to) i h = omega arith

none_again : {st u : State} {rs : List Rec} (m : ℕ) → Runs st rs u → In st m → ¬ Has m rs
none_again m done i y = y
none_again m (more {st} {st'} {r = r} e p) i (inl y) =
    not_again m (came st st' r.kind true r.values e) i y
none_again m (more {st} {st'} {r = r} e p) i (inr y) =
    let adds = taken_adds st _ _ m st' (came st st' r.kind true r.values e) in
    none_again m p (adds.1 (inl i)) y

no_rows_of : (m : ℕ) (rs : List Rec) → ¬ Has m rs → rows_of m rs ≡ []
unfolding rows_of
no_rows_of m [] h = refl
no_rows_of m (r ∷ rs) h = go (is_row m r) refl (no_rows_of m rs (λ y. h (inr y)))
  where
    go : (t : Bool) → is_row m r ≡ t → rows_of m rs ≡ []
        → cond t (r ∷ rows_of m rs) (rows_of m rs) ≡ []
    go true e ih = absurd (h (inl (test_row m r e)))
    go false e ih = ih

-- ---- the first row that has it is the last one
module _ (m : ℕ) (r : Rec) (rs : List Rec) where
  here : is_row m r ≡ true → rows_of m rs ≡ [] → OneRow m (r ∷ rs)
  unfolding rows_of scale_of
  here t none = record { row = r; only = rw (t, none); scale = rw t }

  later : is_row m r ≡ false → OneRow m rs → OneRow m (r ∷ rs)
  unfolding rows_of scale_of
  later t one = record { row = one.row; only = rw t one.only; scale = rw t one.scale }

one_of : {st u : State} {rs : List Rec} (m : ℕ) → Runs st rs u → Has m rs → OneRow m rs
one_of m done y = absurd y
one_of m (more {st} {st'} {r = r} {rs} e p) y = go (is_row m r) refl (one_of m p) y
  where
    go : (t : Bool) → is_row m r ≡ t → (Has m rs → OneRow m rs) → Has m (r ∷ rs)
        → OneRow m (r ∷ rs)
    go true t next y =
        let adds = taken_adds st _ _ m st' (came st st' r.kind true r.values e) in
        here m r rs t (no_rows_of m rs (none_again m p (adds.1 (inr (test_row m r t)))))
    go false t next (inl y) = no (sym t ∙ row_test m r y)
    go false t next (inr y) = later m r rs t (next y)

-- ---- of a tape that reads
module _ (tape : List ℕ) (d : DoesRead tape) where
  pub the_row : OneRow (fields_of tape).site.latitude (records_of tape)
  unfolding picked
  the_row =
      let rs = records_of tape in
      let run = runs start 0 rs d.last (lawful tape d.last d.reads) in
      one_of _ run.0 ((rows_mean d.last rs _ run.0).0 (order_of tape d).held)

  pub one_row : length (rows_of (fields_of tape).site.latitude (records_of tape)) ≡ 1
  one_row = ap length the_row.only

  pub row_scale : (fields_of tape).site.scale ≡ number_at the_row.row 1
  unfolding picked
  row_scale = the_row.scale
