-- The fields of a tape that reads are in range: a record that is picked is one of the tape's, and
-- so its numbers are in the ranges of its kind; the order says that there is one to pick; and a row
-- has the latitude of the project.
use Prim.Native.Nat.{ℕ, suc, ◌≤◌, ◌<◌}
use native.Mathlib.Omega.{arith}
use mathlib.Core.Path.{◌≡◌, refl, sym, ◌∙◌}
use mathlib.Core.Bool.{Bool, true, false, ◌&&◌, and-eq-true_iff}
use mathlib.Core.Logic.{⊎_elim}
use mathlib.Core.List.{List, [], ◌∷◌}
use lib.Dec.{eqb}
use lib.IntN.{ℤ, pos, negsuc, neg_ℤ, nat_abs}
use lib.ListN.{length, get_or, get_or-map}
use lib.Signed.{le_z, le_z_yes}
use borrow.Author.Tests.{eqb-true, eq-eqb}
use Rattle.whole.specs.Order.{◌≤ᶻ◌}
use Rattle.whole.proofs.Branch.{by_test, either}
use Rattle.whole.proofs.Diff.{int}
use Rattle.records.specs.Record.{Field, Rec, rec, row_kind, project_kind, start_kind, leg_kind}
use Rattle.records.specs.Record.{close_kind}
use Rattle.records.specs.Record.{kind_fields, table, in_ranges, good_of}
use Rattle.tape.specs.Tape.{is_leg, start, records_of}
use Rattle.tape.specs.Fields.{Fields, number_at, pick, none, only, has_angle, angle_of}
use Rattle.tape.specs.Fields.{distance_of}
use Rattle.tape.specs.Fields.{is_row, scale_of, picked, DoesRead}
use Rattle.tape.specs.Fields.{fields_of as named}
use Rattle.tape.specs.Legs.{Good, Legs, last, leg, Order, row, opens}
use Rattle.tape.proofs.Legs.{order_long}
use Rattle.tape.proofs.Ordered.{order_of}
use Rattle.tape.proofs.Picks.{by_leg, pick_yes, pick_no, Picked, picked_at}
use Rattle.tape.proofs.Rest.{good_records}
use Rattle.tape.proofs.Round.{lawful}
use Rattle.tape.proofs.Rows.{Has, rows_mean, runs}
use Rattle.tape.proofs.Walk.{no}

abbrev pub Between : ℕ → ℕ → ℕ → Type 0
Between low high n = (low ≤ n) × (n ≤ high)

pub record Ranged (f : Fields) : Type 0 where
  pub legs : Between 1 64 f.line.legs
  pub angles : (k : ℕ) → k ≤ f.line.legs → get_or f.line.angles k 0 < 12960000
  pub distances : (k : ℕ) → k < f.line.legs
      → Between 1000 20000000 (get_or f.line.distances k 0)
  pub elevation : (neg_ℤ (pos 1000) ≤ᶻ f.site.elevation.v) × (f.site.elevation.v ≤ᶻ pos 20000)
  pub scale : Between 9990000 10010000 f.site.scale
  pub from : (f.opening.from.north ≤ 1000000000) × (f.opening.from.east ≤ 1000000000)
  pub mark : f.opening.mark < 12960000
  pub to : (f.closing.to.north ≤ 1000000000) × (f.closing.to.east ≤ 1000000000)
  pub given : f.closing.given < 12960000

-- ---- the numbers of a record in range, by their places
abbrev Inside : List Field → (ℕ → ℤ) → Type 0
Inside [] g = Unit {0}
Inside (f ∷ fs) g = ((f.low ≤ᶻ g 0) × (g 0 ≤ᶻ f.high)) × Inside fs (λ i. g (suc i))

inside : (fs : List Field) (vs : List ℤ) → in_ranges fs vs ≡ true
    → Inside fs (λ i. get_or vs i (pos 0))
inside [] [] e = tt
inside [] (v ∷ vs) e = tt
inside (f ∷ fs) [] e = no e
inside (f ∷ fs) (v ∷ vs) e =
    let i = (and-eq-true_iff (le_z f.low v && le_z v f.high) (in_ranges fs vs)).0 e in
    let j = (and-eq-true_iff (le_z f.low v) (le_z v f.high)).0 i.0 in
    ((le_z_yes (rw j.0 tt), le_z_yes (rw j.1 tt)), inside fs vs i.1)

good_inside : (k : ℕ) (vs : List ℤ) → good_of k vs ≡ true
    → Inside (kind_fields k) (λ i. get_or vs i (pos 0))
unfolding good_of
good_inside k vs e = inside (kind_fields k) vs e

-- and without their sign
plain : (low high : ℕ) (z : ℤ) → (pos low ≤ᶻ z) × (z ≤ᶻ pos high) → Between low high (nat_abs z)
plain low high (pos n) h = let i = h.0 in let j = h.1 in (omega int, omega int)
plain low high (negsuc n) h = let i = h.0 in absurd (omega int)

-- ---- the one record of a kind, where there is one
only_good : (k : ℕ) (rs : List Rec) → Good rs → 0 < length (pick (eqb k) rs)
    → good_of k (only k rs).values ≡ true
only_good k rs g h =
    let t = picked_at (eqb k) rs g 0 h in
    rw (sym (eqb-true k (only k rs).kind t.kind)) at t.good

-- a record more does no harm
more : (p : ℕ → Bool) (r : Rec) (rs : List Rec) → 0 < length (pick p rs)
    → 0 < length (pick p (r ∷ rs))
more p r rs h = go (p r.kind) refl
  where
    go : (b : Bool) → p r.kind ≡ b → 0 < length (pick p (r ∷ rs))
    go true e = rw (pick_yes p r rs e) (omega arith)
    go false e = rw (pick_no p r rs e) h

here : (k : ℕ) (r : Rec) (rs : List Rec) → r.kind ≡ k → 0 < length (pick (eqb k) (r ∷ rs))
here k r rs e = rw (pick_yes (eqb k) r rs (eq-eqb k r.kind (sym e))) (omega arith)

one_close : {rs : List Rec} → Legs rs → 0 < length (pick (eqb close_kind) rs)
one_close (last r e) = here close_kind r [] e
one_close (leg r {rs} e l) = more (eqb close_kind) r rs (one_close l)

record Each (rs : List Rec) : Type 0 where
  project : 0 < length (pick (eqb project_kind) rs)
  begins : 0 < length (pick (eqb start_kind) rs)
  a_leg : 0 < length (pick is_leg rs)
  close : 0 < length (pick (eqb close_kind) rs)

each : {rs : List Rec} → Order rs → Each rs
each (row r {rs} e o) =
    let i = each o in
    record {
      project = more (eqb project_kind) r rs i.project;
      begins = more (eqb start_kind) r rs i.begins;
      a_leg = more is_leg r rs i.a_leg;
      close = more (eqb close_kind) r rs i.close;
    }
each (opens p s l {rs} one two is legs) =
    record {
      project = here project_kind p (s ∷ l ∷ rs) one;
      begins = more (eqb start_kind) p (s ∷ l ∷ rs) (here start_kind s (l ∷ rs) two);
      a_leg =
          more is_leg p (s ∷ l ∷ rs)
          (more is_leg s (l ∷ rs) (rw (pick_yes is_leg l rs is) (omega arith)));
      close =
          more (eqb close_kind) p (s ∷ l ∷ rs)
          (more (eqb close_kind) s (l ∷ rs) (more (eqb close_kind) l rs (one_close legs)));
    }

-- ---- the angle of a record that turns, the distance of a leg, and the factor of a row that is
-- there
-- kind by kind, for the numbers vs
abbrev AngleFits : ℕ → Type 0
AngleFits k = (vs : List ℤ) → good_of k vs ≡ true → angle_of (rec k vs) < 12960000

leg_small : AngleFits leg_kind
unfolding angle_of kind_fields table
leg_small vs g = omega (arith, (plain _ _ _ (good_inside leg_kind vs g).0).1)

close_small : AngleFits close_kind
unfolding angle_of kind_fields table
close_small vs g = omega (arith, (plain _ _ _ (good_inside close_kind vs g).0).1)

angle_small : (r : Rec) → Picked has_angle r → angle_of r < 12960000
angle_small r t =
    either (is_leg r.kind) (eqb r.kind close_kind)
    (λ l. by_leg AngleFits leg_small r.kind l)
    (λ c. rw (eqb-true r.kind close_kind c) close_small)
    t.kind
    r.values
    t.good

abbrev Long : ℕ → Type 0
Long k = (vs : List ℤ) → good_of k vs ≡ true → Between 1000 20000000 (distance_of (rec k vs))

leg_long : Long leg_kind
unfolding distance_of kind_fields table
leg_long vs g = plain _ _ _ (good_inside leg_kind vs g).1.0

distance_small : (r : Rec) → Picked is_leg r → Between 1000 20000000 (distance_of r)
distance_small r t = by_leg Long leg_long r.kind t.kind r.values t.good

scaled : (m : ℕ) (rs : List Rec) → Good rs → Has m rs → Between 9990000 10010000 (scale_of m rs)
unfolding scale_of is_row kind_fields table
scaled m [] g y = absurd y
scaled m (r ∷ rs) g y =
    by_test (Between 9990000 10010000) (eqb r.kind row_kind && eqb (number_at r 0) m)
    (λ t. let five =
    eqb-true r.kind row_kind ((and-eq-true_iff (eqb r.kind row_kind) _).0 t).0 in
    plain _ _ _ (good_inside row_kind r.values (rw five at g.0)).1.0)
    (λ t. scaled m rs g.1
    (⊎_elim (λ x. no (sym t ∙ rw (eq-eqb _ _ x.0, eq-eqb _ _ x.1))) (λ x. x) y))

pub ranged : (tape : List ℕ) → DoesRead tape → Ranged (named tape)
unfolding picked angle_of distance_of kind_fields table
ranged tape d =
    let rs = records_of tape in
    let o = order_of tape d in
    let g = good_records tape d in
    let h = each o.order in
    let run = runs start 0 rs d.last (lawful tape d.last d.reads) in
    let p = good_inside project_kind _ (only_good project_kind rs g h.project) in
    let s = good_inside start_kind _ (only_good start_kind rs g h.begins) in
    let c = good_inside close_kind _ (only_good close_kind rs g h.close) in
    record {
      legs = (h.a_leg, omega (arith, o.legs, o.few (omega arith)));
      angles =
          λ k i. rw (get_or-map angle_of (pick has_angle rs) k none)
          (angle_small _ (picked_at has_angle rs g k (omega (arith, order_long o.order))));
      distances =
          λ k i. rw (get_or-map distance_of (pick is_leg rs) k none)
          (distance_small _ (picked_at is_leg rs g k i));
      elevation = p.1.0;
      scale = scaled _ rs g ((rows_mean d.last rs _ run.0).0 o.held);
      from = ((plain _ _ _ s.0).1, (plain _ _ _ s.1.0).1);
      mark = omega (arith, (plain _ _ _ s.1.1.0).1);
      to = ((plain _ _ _ c.1.0).1, (plain _ _ _ c.1.1.0).1);
      given = omega (arith, (plain _ _ _ c.1.1.1.0).1);
    }
