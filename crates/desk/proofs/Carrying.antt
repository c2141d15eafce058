-- The first step on the bytes of a tape that reads. What the walk sights at leg k is the leg's own
-- angle and distance; the azimuths carried with them are the carried ones, and what is left in the
-- lists is the traverse with its angles balanced.
use Prim.Native.Nat.{ℕ, ◌+◌, ◌≤◌, ◌<◌}
use native.Mathlib.Omega.{arith}
use native.Mathlib.Nat.{mod-lt}
use mathlib.Core.Path.{◌≡◌, ◌∙◌, ap}
use mathlib.Core.Bool.{Bool, true, false}
use mathlib.Core.List.{List, ◌++◌}
use lib.ListN.{length, set, take, drop, length-replicate}
use lib.IntN.{ℤ}
use Rattle.whole.specs.declared.Whole.{Whole}
use Rattle.minutes.specs.Quadrant.{circle}
use Rattle.steps.specs.Azimuth.{from_mark, onward, misclosure, closes_angles}
use Rattle.tape.specs.Fields.{Fields, fields_of}
use Rattle.whole.specs.Filled.{filled}
use Rattle.desk.specs.Angles.{angle_at, distance_at, turns_of, misclosure_of, zeros}
use Rattle.desk.specs.Angles.{balanced_traverse}
use Rattle.answer.specs.declared.Refusal.TheVariants.{BadAngles}
use Rattle.std.specs.Prelude.{Ok}
use Rattle.tape.specs.Tape.{refused_at}
use Rattle.desk.specs.Answer.{checked_angles}
use Rattle.desk.specs.Inside.{Known, Ready, Scaled, AllTurned}
use Rattle.desk.specs.Inside.{no_leg, no_legs, leg_by, carried_leg, balanced_in, frame_of}
use Rattle.desk.specs.Inside.{with_legs}
use Rattle.desk.specs.Turns.{Turns, carried, balanced_at}
use Rattle.tape.specs.declared.Control.{Control}
use Rattle.desk.specs.declared.Frame.{Frame}
use Rattle.desk.specs.declared.Leg.{Leg}
use Rattle.tape.specs.Legs.{sight_at, LegAt}
use Rattle.tape.specs.declared.Sight.{Sight}
use Rattle.tape.proofs.Legs.{leg_first, leg_next as leg_after, leg_angle, leg_distance}
use Rattle.std.specs.Prelude.{map}
use Rattle.std.proofs.lemmas.List.{length-take-le}
use Rattle.whole.proofs.Filling.{filled_on, filled_whole, map_filled}
use Rattle.desk.proofs.Stepping.{tape_ready}
use Rattle.desk.proofs.Turning.{carried_on, carried_turned, filled_turned, filled_balanced}

-- what the walk has sighted at leg k, or at the close after the last
pub record Sighted (tape : List ℕ) (k : ℕ) (s : Sight) : Type 0 where
  pub at : ℕ
  pub is : s ≡ sight_at tape at
  pub stands : LegAt tape k at

module _ (tape : List ℕ) (c : Control) (known : Known tape c) where
  abbrev f : Fields
  f = fields_of tape

  abbrev t : Turns
  t = turns_of f

  ready : Ready f
  ready = tape_ready tape known.reads

  legs_is : c.legs ≡ f.line.legs
  legs_is = ap (λ (x : Control). x.legs) known.is

  place_is : c.place ≡ f.closing.place
  place_is = ap (λ (x : Control). x.place) known.is

  pub legs_some : 1 ≤ c.legs
  legs_some = rw legs_is ready.some

  pub legs_few : c.legs ≤ 64
  legs_few = rw legs_is ready.few

  -- the list has a place for every leg
  legs_over : (z : List Leg) → length z ≡ 64 → length (take c.legs z) ≡ c.legs
  legs_over z room = length-take-le c.legs z (omega (arith, legs_few))

  pub scaled : Scaled c
  scaled =
      rw known.is (record {
        elevation = ready.elevation;
        scale = (ready.scale_low, ready.scale_high);
      })

  pub mark_turned : c.mark < circle
  mark_turned = rw known.is ready.mark

  pub given_turned : c.given < circle
  given_turned = rw known.is ready.given

  -- ---- at leg k
  pub first_sight : (s : Sight) → s ≡ sight_at tape c.line → Sighted tape 0 s
  first_sight s e =
      let line = ap (λ (x : Control). x.line) known.is in
      record {
        at = c.line;
        is = e;
        stands = rw line (leg_first tape known.bytes known.reads);
      }

  module _ (k : ℕ) (s : Sight) (h : Sighted tape k s) where
    angle_at_lem : s.angle ≡ angle_at f k
    angle_at_lem = ap (λ (x : Sight). x.angle) h.is ∙ leg_angle tape k h.at h.stands

    sight_turned : k ≤ c.legs → s.angle < circle
    sight_turned low = rw angle_at_lem (ready.angles k (omega (arith, legs_is)))

    module _ (low : k < c.legs) where
      under : k < f.line.legs
      under = omega (arith, legs_is)

      pub next_sight : (u : Sight) → u ≡ sight_at tape s.next → Sighted tape (k + 1) u
      next_sight u e =
          record {
            at = s.next;
            is = e;
            stands =
                rw (ap (λ (x : Sight). x.next) h.is)
                (leg_after tape known.reads k h.at h.stands under);
          }

      distance_is : s.distance ≡ distance_at f k
      distance_is =
          ap (λ (x : Sight). x.distance) h.is ∙ leg_distance tape known.reads k h.at h.stands under

      pub distance_next : (l m : List ℕ) → l ≡ filled (distance_at f) k m
          → set l k s.distance ≡ filled (distance_at f) (k + 1) m
      distance_next l m i = filled_on (distance_at f) m k s.distance l i distance_is

      pub leg_next : (a : ℕ) (l m : List Leg) → l ≡ filled (carried_leg f) k m → a ≡ carried t k
          → set l k (record { azimuth = a; distance = s.distance })
          ≡ filled (carried_leg f) (k + 1) m
      leg_next a l m i j = filled_on (carried_leg f) m k _ l i (rw (j, distance_is))

  -- ---- from leg k to the next
  module _ (k : ℕ) (s u : Sight) (h : Sighted tape k s) (low : k < c.legs)
      (e : u ≡ sight_at tape s.next) where
    next : Sighted tape (k + 1) u
    next = next_sight k s h low u e

    pub next_turned : u.angle < circle
    next_turned = sight_turned (k + 1) u next (omega arith)

    pub carried_next : (a r : ℕ) → r ≡ onward a u.angle → a ≡ carried t k → r ≡ carried t (k + 1)
    carried_next a r i j = i ∙ rw (j, angle_at_lem (k + 1) u next) (carried_on t k)

  -- the same where leg k is one of the list that the walk fills
  module _ (k : ℕ) (s : Sight) (h : Sighted tape k s) (z : List Leg) (room : length z ≡ 64)
      (in_list : k < length (take c.legs z)) where
    low_in : k < c.legs
    low_in = omega (arith, legs_over z room)

    pub sight_in : (u : Sight) → u ≡ sight_at tape s.next → Sighted tape (k + 1) u
    sight_in = next_sight k s h low_in

    pub turned_in : (u : Sight) → u ≡ sight_at tape s.next → u.angle < circle
    turned_in u = next_turned k s u h low_in

    pub carried_in : (u : Sight) → u ≡ sight_at tape s.next → (a r : ℕ) → r ≡ onward a u.angle
        → a ≡ carried t k → r ≡ carried t (k + 1)
    carried_in u = carried_next k s u h low_in

    pub leg_in : (a : ℕ) (l m : List Leg) → l ≡ filled (carried_leg f) k m → a ≡ carried t k
        → set l k (record { azimuth = a; distance = s.distance })
        ≡ filled (carried_leg f) (k + 1) m
    leg_in = leg_next k s h low_in

  -- ---- at the first leg
  pub first_turned : (s : Sight) → s ≡ sight_at tape c.line → s.angle < circle
  first_turned s e = sight_turned 0 s (first_sight s e) (omega arith)

  pub carried_first : (s : Sight) (r : ℕ) → s ≡ sight_at tape c.line
      → r ≡ from_mark c.mark s.angle → r ≡ carried t 0
  unfolding carried
  carried_first s r e i = i ∙ rw (angle_at_lem 0 s (first_sight s e), known.is)

  -- ---- after the last leg
  module _ (k : ℕ) (z : List Leg) (room : length z ≡ 64) (h : k ≤ length (take c.legs z))
      (i : length (take c.legs z) ≤ k) where
    at_end : k ≡ c.legs
    at_end = omega (arith, legs_over z room)

    pub legs_last : (m : List Leg) → z ≡ no_legs → m ≡ filled (carried_leg f) k (take c.legs z)
        → m ++ drop c.legs z ≡ filled (carried_leg f) c.legs no_legs
    legs_last m e g =
        filled_whole (carried_leg f) z m c.legs (omega (arith, legs_few)) (rw at_end at g)
        ∙ ap (filled (carried_leg f) c.legs) e

  leg_one_turned : t.first < circle
  leg_one_turned = mod-lt _ (omega arith)

  pub closing_turned : (a : ℕ) → a ≡ carried t c.legs → a < circle
  closing_turned a e = rw e (carried_turned t leg_one_turned c.legs)

  -- ---- the legs in a list
  few : f.line.legs ≤ length no_legs
  few = omega (arith, length-replicate {A = Leg} 64 no_leg, ready.few)

  module _ (l : List Leg) (g : l ≡ filled (carried_leg f) c.legs no_legs) where
    legs_carried : l ≡ filled (carried_leg f) f.line.legs no_legs
    legs_carried = rw legs_is at g

    pub all_turned : AllTurned c.legs l
    all_turned =
        rw (legs_is, legs_carried)
        (filled_turned t (distance_at f) f.line.legs no_legs few leg_one_turned)

    legs_balanced : (w : ℤ) (m : List Leg) → m ≡ balanced_in w 1 (c.legs + 1) c.legs l
        → w ≡ misclosure_of f
        → m ≡ filled (leg_by (balanced_at t (misclosure_of f)) (distance_at f)) f.line.legs no_legs
    legs_balanced w m i j =
        rw (legs_is, legs_carried, j) at i
        ∙ filled_balanced t (distance_at f) f.line.legs no_legs few (misclosure_of f)

  -- the azimuths of the legs, and their distances
  module _ (g d : ℕ → ℕ) (n : ℕ) where
    azimuths_of : map (λ (x : Leg). x.azimuth) (filled (leg_by g d) n no_legs) ≡ filled g n zeros
    azimuths_of = map_filled (λ (x : Leg). x.azimuth) (leg_by g d) no_legs n

    distances_of : map (λ (x : Leg). x.distance) (filled (leg_by g d) n no_legs) ≡ filled d n zeros
    distances_of = map_filled (λ (x : Leg). x.distance) (leg_by g d) no_legs n

  -- ---- the answer, by the test
  pub checked_fails : (x : Bool) → x ≡ closes_angles (misclosure_of f) f.line.legs
      → x ≡ false → refused_at BadAngles c.place ≡ checked_angles f
  unfolding checked_angles
  checked_fails x tested h = rw (← tested, h, place_is)

  module _ (x : Bool) (w : Whole) (a : ℕ) (tested : x ≡ closes_angles w.v c.legs)
      (i : w.v ≡ misclosure a c.given) (j : a ≡ carried t c.legs) where
    misclosure_known : w.v ≡ misclosure_of f
    unfolding misclosure_of
    misclosure_known = i ∙ rw (j, known.is)

    pub test_known : x ≡ closes_angles (misclosure_of f) f.line.legs
    test_known = rw (← misclosure_known, ← legs_is) tested

    pub checked_good : (b : Frame) (l m : List Leg) → x ≡ true → b ≡ frame_of c (c.legs + 1) w
        → l ≡ filled (carried_leg f) c.legs no_legs → m ≡ balanced_in w.v 1 (c.legs + 1) c.legs l
        → Ok (with_legs b m) ≡ checked_angles f
    unfolding checked_angles balanced_traverse
    checked_good b l m h e g i =
        rw (
          ← test_known,
          h,
          e,
          legs_balanced l g w.v m i misclosure_known,
          azimuths_of (balanced_at t (misclosure_of f)) (distance_at f) f.line.legs,
          distances_of (balanced_at t (misclosure_of f)) (distance_at f) f.line.legs,
          known.is,
          ← misclosure_known,
        )

    pub checked_bad : x ≡ false → refused_at BadAngles c.place ≡ checked_angles f
    checked_bad = checked_fails x test_known
