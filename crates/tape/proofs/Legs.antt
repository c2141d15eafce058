-- The walk along the legs of a tape that reads. What stands at the place of leg k is the leg, or
-- the close after the last; its angle and distance are the fields' own, and the next leg stands
-- where the sight says. Callers know no other law of places.
use Prim.Native.Nat.{ℕ, zero, suc, ◌+◌, ◌<◌}
use native.Mathlib.Omega.{arith}
use native.Mathlib.Nat.{add-zero}
use mathlib.Core.Path.{◌≡◌, refl, sym, ◌∙◌, ap}
use mathlib.Core.Bool.{true, false}
use mathlib.Core.List.{List, [], ◌∷◌}
use lib.ListN.{length, get_or, drop, length-drop, get_or-map}
use lib.Seq.{get_or-drop, drop-drop}
use borrow.Author.Tests.{le-leb}
use Rattle.records.specs.Record.{Rec, row_kind, project_kind, start_kind}
use Rattle.records.specs.Record.{body_of}
use Rattle.tape.specs.Tape.{is_leg, records_of}
use Rattle.tape.specs.Fields.{pick, none, place_of, has_angle, angle_of, distance_of, picked}
use Rattle.tape.specs.Fields.{AllBytes, DoesRead}
use Rattle.tape.specs.Fields.{fields_of as named}
use Rattle.tape.specs.Legs.{sight_of, sight_at, Rest, Legs, last, leg, Order, row, opens, LegAt}
use Rattle.tape.proofs.Ordered.{order_of}
use Rattle.tape.proofs.Picks.{pick_yes, pick_no, skips, place_on, place_here, leg_turns}
use Rattle.tape.proofs.Picks.{close_turns}
use Rattle.tape.proofs.Rest.{kind_there, whole_there, numbers_there, rest_start, rest_next}

-- ---- the order: as many records turn as there are legs, and one more; the first of them are the
-- legs
legs_long : {rs : List Rec} → Legs rs → length (pick has_angle rs) ≡ suc (length (pick is_leg rs))
unfolding pick
legs_long (last r e) = rw e
legs_long (leg r {rs} e l) =
    rw (pick_yes has_angle r rs (leg_turns r.kind e), pick_yes is_leg r rs e, legs_long l)

-- a record that is no leg and does not turn changes neither list, and one that is a leg is the
-- first of both
abbrev Same : List Rec → Type 0
Same rs =
    (k : ℕ) → k < length (pick is_leg rs)
    → get_or (pick has_angle rs) k none ≡ get_or (pick is_leg rs) k none

same_leg : (r : Rec) (rs : List Rec) → is_leg r.kind ≡ true → Same rs → Same (r ∷ rs)
same_leg r rs e ih = rw (pick_yes has_angle r rs (leg_turns r.kind e), pick_yes is_leg r rs e) go
  where
    go : (k : ℕ) → k < suc (length (pick is_leg rs))
        → get_or (r ∷ pick has_angle rs) k none ≡ get_or (r ∷ pick is_leg rs) k none
    go zero low = refl
    go (suc k) low = ih k (omega arith)

legs_same : {rs : List Rec} → Legs rs → Same rs
unfolding pick
legs_same (last r e) = λ k low. absurd (omega (arith, ap length (pick_no is_leg r [] (rw e))))
legs_same (leg r {rs} e l) = same_leg r rs e (legs_same l)

module _ (k : ℕ) (r : Rec) (rs : List Rec) (is : r.kind ≡ k) (still : has_angle k ≡ false)
    (none : is_leg k ≡ false) where
  skip_long : length (pick has_angle rs) ≡ suc (length (pick is_leg rs))
      → length (pick has_angle (r ∷ rs)) ≡ suc (length (pick is_leg (r ∷ rs)))
  skip_long e = rw (skips has_angle k r rs is still, skips is_leg k r rs is none) e

  skip_same : Same rs → Same (r ∷ rs)
  skip_same e = rw (skips has_angle k r rs is still, skips is_leg k r rs is none) e

pub order_long : {rs : List Rec} → Order rs
    → length (pick has_angle rs) ≡ suc (length (pick is_leg rs))
order_long (row r {rs} e o) = skip_long row_kind r rs e refl refl (order_long o)
order_long (opens p s l {rs} one two is legs) =
    skip_long project_kind p _ one refl refl
    (skip_long start_kind s _ two refl refl (legs_long (leg l is legs)))

order_same : {rs : List Rec} → Order rs → Same rs
order_same (row r {rs} e o) = skip_same row_kind r rs e refl refl (order_same o)
order_same (opens p s l {rs} one two is legs) =
    skip_same project_kind p _ one refl refl
    (skip_same start_kind s _ two refl refl (legs_same (leg l is legs)))

-- ---- what stands at the place of a leg
record Front (tape : List ℕ) (k at : ℕ) : Type 0 where
  r : Rec
  rs : List Rec
  rest : Rest tape at (r ∷ rs)
  is : get_or (pick has_angle (records_of tape)) k none ≡ r
  turning : has_angle r.kind ≡ true

module _ (tape : List ℕ) (k at : ℕ) where
  head_is : {r : Rec} {rs : List Rec} → r ∷ rs ≡ drop k (pick has_angle (records_of tape))
      → get_or (pick has_angle (records_of tape)) k none ≡ r
  head_is e = sym (rw (← e, add-zero) at (get_or-drop k (pick has_angle (records_of tape)) 0 none))

  front_of : {rs : List Rec} → Legs rs → Rest tape at rs
      → pick has_angle rs ≡ drop k (pick has_angle (records_of tape)) → Front tape k at
  front_of (last r e) h less =
      let t = close_turns r.kind e in
      let is = head_is (rw (pick_yes has_angle r [] t) at less) in
      record { r = r; rs = []; rest = h; is = is; turning = t }
  front_of (leg r {rs} e l) h less =
      let t = leg_turns r.kind e in
      let is = head_is (rw (pick_yes has_angle r rs t) at less) in
      record { r = r; rs = rs; rest = h; is = is; turning = t }

  front : LegAt tape k at → Front tape k at
  front h = front_of h.legs h.rest h.less

-- what is sighted there is the record's own, whatever its kind
module _ (tape : List ℕ) (at : ℕ) (r : Rec) (rs : List Rec) (h : Rest tape at (r ∷ rs)) where
  sight_is : sight_at tape at ≡ sight_of r at
  unfolding sight_at
  sight_is =
      let whole = le-leb (at + 1 + body_of r.kind) (length tape) (whole_there tape at r rs h) in
      rw (kind_there tape at r rs h, numbers_there tape at r rs h, whole)

  angle_is : has_angle r.kind ≡ true → (sight_at tape at).angle ≡ angle_of r
  angle_is t = rw (sight_is, t)

  module _ (t : is_leg r.kind ≡ true) where
    distance_is : (sight_at tape at).distance ≡ distance_of r
    distance_is = rw (sight_is, t)

    next_is : (sight_at tape at).next ≡ at + 1 + body_of r.kind
    next_is = rw (sight_is, t)

-- ---- leg 0 stands where the line begins
first_at : (tape : List ℕ) {rs : List Rec} → Order rs → (at : ℕ) → Rest tape at rs
    → pick has_angle rs ≡ pick has_angle (records_of tape)
    → LegAt tape 0 (place_of is_leg at rs)
first_at tape (row r {rs} e o) at h same =
    rw (place_on is_leg r rs at (rw e))
    (first_at tape o (at + 1 + body_of r.kind) (rest_next tape at r rs h)
    (rw (skips has_angle row_kind r rs e refl) at same))
first_at tape (opens p s l {rs} one two is legs) at h same =
    let g = rest_next tape at p (s ∷ l ∷ rs) h in
    rw (
      place_on is_leg p (s ∷ l ∷ rs) at (rw one),
      place_on is_leg s (l ∷ rs) _ (rw two),
      place_here is_leg l rs _ is,
    )
    (record {
      rs = l ∷ rs;
      rest = rest_next tape _ s (l ∷ rs) g;
      legs = leg l is legs;
      less =
          rw (
            skips has_angle project_kind p (s ∷ l ∷ rs) one refl,
            skips has_angle start_kind s (l ∷ rs) two refl,
          ) at same;
    })

pub leg_first : (tape : List ℕ) → AllBytes tape → DoesRead tape
    → LegAt tape 0 (named tape).opening.line
unfolding picked
leg_first tape b d = first_at tape (order_of tape d).order 0 (rest_start tape b d) refl

-- ---- the angle of leg k, and the closing one
pub leg_angle : (tape : List ℕ) (k at : ℕ) → LegAt tape k at
    → (sight_at tape at).angle ≡ get_or (named tape).line.angles k 0
unfolding picked angle_of
leg_angle tape k at h =
    let f = front tape k at h in
    angle_is tape at f.r f.rs f.rest f.turning
    ∙ sym (get_or-map angle_of (pick has_angle (records_of tape)) k none ∙ ap angle_of f.is)

-- ---- the next leg, and the distance, where there is one more
module _ (tape : List ℕ) (d : DoesRead tape) (k at : ℕ) (h : LegAt tape k at)
    (low : k < (named tape).line.legs) where
  abbrev all : List Rec
  all = records_of tape

  some_left : 0 < length (pick is_leg h.rs)
  unfolding picked
  some_left =
      omega (
        arith,
        legs_long h.legs,
        ap length h.less,
        order_long (order_of tape d).order,
        length-drop k (pick has_angle all),
      )

  onward : {rs : List Rec} → Legs rs → rs ≡ h.rs
      → LegAt tape (k + 1) (sight_at tape at).next
      × ((sight_at tape at).distance ≡ distance_of (get_or (pick has_angle all) k none))
  onward (last r e) same =
      let no_leg : pick is_leg (r ∷ []) ≡ [] = unfold pick in (pick_no is_leg r [] (rw e)) in
      let none : pick is_leg h.rs ≡ [] = rw (← same) no_leg in
      absurd (omega (arith, some_left, ap length none))
  onward (leg r {rs} e l) same =
      let rest : Rest tape at (r ∷ rs) = rw same h.rest in
      let turns_first = pick_yes has_angle r rs (leg_turns r.kind e) in
      let less : r ∷ pick has_angle rs ≡ drop k (pick has_angle all) =
      sym turns_first ∙ rw same h.less in (
        record {
          rs = rs;
          rest = rw (next_is tape at r rs rest e) (rest_next tape at r rs rest);
          legs = l;
          less = rw (← drop-drop 1 k (pick has_angle all), ← less);
        },
        distance_is tape at r rs rest e ∙ rw (head_is tape k at less),
      )

  pub leg_next : LegAt tape (k + 1) (sight_at tape at).next
  leg_next = (onward h.legs refl).0

  pub leg_distance : (sight_at tape at).distance ≡ get_or (named tape).line.distances k 0
  unfolding picked distance_of
  leg_distance =
      (onward h.legs refl).1 ∙ ap distance_of (order_same (order_of tape d).order k low)
      ∙ sym (get_or-map distance_of (pick is_leg all) k none)
