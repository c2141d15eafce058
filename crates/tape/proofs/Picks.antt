-- Picking: what is picked of a record and the rest, and the place of the first that is picked.
use Prim.Native.Nat.{ℕ, zero, suc, ◌+◌, ◌<◌}
use native.Mathlib.Omega.{arith}
use mathlib.Core.Path.{◌≡◌, refl, sym, ◌∙◌}
use mathlib.Core.Bool.{Bool, true, false}
use mathlib.Core.List.{List, [], ◌∷◌}
use lib.Dec.{eqb}
use lib.ListN.{length, get_or}
use borrow.Author.Tests.{eqb-true, eq-eqb, ne_eqb}
use Rattle.records.specs.Record.{Rec, leg_kind, close_kind, body_of, good_of}
use Rattle.tape.specs.Tape.{is_leg}
use Rattle.tape.specs.Fields.{pick, none, only, place_of, has_angle}
use Rattle.tape.specs.Legs.{Good}
use Rattle.tape.proofs.Walk.{no}

module _ (p : ℕ → Bool) (r : Rec) (rs : List Rec) where
  pub pick_yes : p r.kind ≡ true → pick p (r ∷ rs) ≡ r ∷ pick p rs
  unfolding pick
  pick_yes e = rw e

  pub pick_no : p r.kind ≡ false → pick p (r ∷ rs) ≡ pick p rs
  unfolding pick
  pick_no e = rw e

  pub place_here : (at : ℕ) → p r.kind ≡ true → place_of p at (r ∷ rs) ≡ at
  unfolding place_of
  place_here at e = rw e

  pub place_on : (at : ℕ) → p r.kind ≡ false
      → place_of p at (r ∷ rs) ≡ place_of p (at + 1 + body_of r.kind) rs
  unfolding place_of
  place_on at e = rw e

-- a record of a kind that is not picked
module _ (p : ℕ → Bool) (k : ℕ) (r : Rec) (rs : List Rec) (is : r.kind ≡ k)
    (not : p k ≡ false) where
  pub skips : pick p (r ∷ rs) ≡ pick p rs
  skips = pick_no p r rs (rw is not)

  pub place_skips : (at b : ℕ) → b ≡ at + 1 + body_of k → place_of p at (r ∷ rs) ≡ place_of p b rs
  place_skips at b e = place_on p r rs at (rw is not) ∙ rw (is, e)

-- the one of a kind, where it comes first
pub only_first : (k : ℕ) (r : Rec) (rs : List Rec) → r.kind ≡ k → only k (r ∷ rs) ≡ r
only_first k r rs e = rw (pick_yes (eqb k) r rs (eq-eqb k r.kind (sym e)))

-- ---- the kinds that are legs. What holds of each of them holds of every leg: the one law that
-- names them all
pub by_leg : (P : ℕ → Type 0) → P leg_kind → (k : ℕ) → is_leg k ≡ true → P k
by_leg P h k t = rw (eqb-true k leg_kind t) h

-- and a kind that is no leg is another than a leg's
module _ (k n : ℕ) (t : is_leg k ≡ true) (f : is_leg n ≡ false) where
  pub leg_apart : eqb k n ≡ false
  leg_apart = ne_eqb k n (λ e. no (rw (e, f) at t))

  pub apart_leg : eqb n k ≡ false
  apart_leg = ne_eqb n k (λ e. no (rw (← e, f) at t))

-- ---- legs turn, and so does the close
pub leg_turns : (k : ℕ) → is_leg k ≡ true → has_angle k ≡ true
leg_turns k e = rw e

pub close_turns : (k : ℕ) → k ≡ close_kind → has_angle k ≡ true
close_turns k e = rw e

-- ---- a record that is picked is good
pub record Picked (p : ℕ → Bool) (r : Rec) : Type 0 where
  pub kind : p r.kind ≡ true
  pub good : good_of r.kind r.values ≡ true

pub picked_at : (p : ℕ → Bool) (rs : List Rec) → Good rs → (k : ℕ) → k < length (pick p rs)
    → Picked p (get_or (pick p rs) k none)
unfolding pick
picked_at p [] g = λ k low. absurd (omega arith)
picked_at p (r ∷ rs) g = go (p r.kind) refl (picked_at p rs g.1)
  where
    P : List Rec → Type 0
    P l = (k : ℕ) → k < length l → Picked p (get_or l k none)

    here : p r.kind ≡ true → P (pick p rs) → P (r ∷ pick p rs)
    here e ih zero low = record { kind = e; good = g.0 }
    here e ih (suc k) low = ih k (omega arith)

    go : (b : Bool) → p r.kind ≡ b → P (pick p rs) → P (pick p (r ∷ rs))
    go true e ih = rw (pick_yes p r rs e) (here e ih)
    go false e ih = rw (pick_no p r rs e) ih
