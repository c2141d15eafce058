-- The run along the legs: a step whose input is in range gives its value, each value is small, and
-- so the sums at a station are the preliminary places and the distance run there.
use Prim.Native.Nat.{ℕ, zero, suc, ◌+◌, ◌*◌, ◌^◌, ◌≤◌, ◌<◌}
use native.Mathlib.Omega.{arith}
use native.Mathlib.Numerals.{add-one}
use mathlib.Core.Path.{◌≡◌, ◌∙◌, ap, subst}
use mathlib.Core.Bool.{true, ◌&&◌}
use mathlib.Core.List.{List, [], ◌∷◌}
use lib.ListN.{length, get_or, set, take, get_or-map}
use Rattle.std.proofs.lemmas.List.{get_or-take, length-take-le}
use lib.IntN.{ℤ, pos, nat_abs, neg_ℤ, ◌+ℤ◌, ◌-ℤ◌, ◌*ℤ◌}
use Rattle.whole.proofs.Laws.{abs_neg, abs_mul, near_most, triangle}
use Rattle.whole.proofs.Ring.{ring, exps}
use Rattle.whole.proofs.Rounding.{half_up_most, nearest_most}
use Rattle.std.specs.Prelude.{Result, Ok, IsOk}
use Rattle.answer.specs.declared.OutOfRange.{OutOfRange}
use Rattle.answer.specs.Told.{told_count, inside}
use Rattle.answer.proofs.Telling.{has_value, value_told, both, inside_yes}
use Rattle.minutes.specs.Quadrant.{circle}
use Rattle.steps.specs.Course.{Axis, north, east, sine_along, move, course, course_step}
use Rattle.steps.specs.Course.{move_along, told_move}
use Rattle.sines.specs.Sine.{entry_in}
use Rattle.steps.specs.declared.course.Moves.{Moves}
use Rattle.sines.proofs.Own.{lent_entries, Entries}
use Rattle.steps.specs.Distance.{grid, grid_step}
use Rattle.steps.proofs.Laws.{product_most}
use Rattle.steps.proofs.Moving.{moves_there as course_there, move_is as course_is, along_most}
use Rattle.desk.specs.Line.{run, preliminary}
use Rattle.desk.specs.Traverse.{along, long_of, azimuth_of, line}
use Rattle.whole.specs.Filled.{filled}
use Rattle.whole.proofs.Filling.{filled_on}
use Rattle.desk.specs.Inside.{no_leg, with_legs, LegSound, Sound, RoomForLeg, Bounded}
use Rattle.desk.specs.Inside.{sum_of, begun, advanced, sums_at, kept_to}
use Rattle.desk.specs.declared.vector.Vector.{Vector}
use Rattle.desk.specs.Angles.{Balanced}
use Rattle.desk.specs.declared.Frame.{Frame}
use Rattle.desk.specs.declared.Leg.{Leg}
use Rattle.desk.specs.declared.Sums.{Sums}

-- ---- the grid distance of a leg
module _ (distance factor : ℕ) (near : distance ≤ 20000000) (most : factor ≤ 10020010) where
  pub grid_most : grid distance factor ≤ 20040020
  unfolding grid
  grid_most = half_up_most (distance * factor) 10000000 20040020 (omega arith)
      (omega (arith, product_most distance factor 20000000 10020010 near most))

  module _ (r : Result ℕ OutOfRange) (far : 1000 ≤ distance) (least : 9980000 ≤ factor)
      (e : told_count r ≡ grid_step distance factor) where
    in_range_lem : (inside 1000 20000000 distance && inside 9980000 10020010 factor) ≡ true
    in_range_lem = both _ _ (inside_yes 1000 20000000 distance far near)
        (inside_yes 9980000 10020010 factor least most)

    pub grid_there : IsOk r
    grid_there = has_value pos r _ _ e in_range_lem

    module _ (n : ℕ) (f : r ≡ Ok n) where
      pub grid_is : n ≡ grid distance factor
      grid_is = ap nat_abs (value_told pos r n _ _ e in_range_lem f)

      pub grid_small : n ≤ 20040020
      grid_small = rw grid_is grid_most

-- ---- the latitude or departure of a leg, by the entries of any table
module _ (e : ℕ → ℤ) (entries : Entries e) where
  course_most : (axis : Axis) (distance azimuth : ℕ) → distance ≤ 20100000 → azimuth < circle
      → nat_abs (course e axis distance azimuth) ≤ 2010000
  unfolding move
  course_most axis distance azimuth near turned =
      let s = sine_along e axis azimuth in
      nearest_most (neg_ℤ (s *ℤ pos distance)) 10000000000 2010000 (omega arith)
      (rw (abs_neg (s *ℤ pos distance), abs_mul s (pos distance))
      (omega (
        arith,
        product_most (nat_abs s) distance 1000000000 20100000
            (along_most e entries axis azimuth turned) near,
      )))

-- so a lent table gives a leg its moves, which are the course along each axis, and slight
module _ (table : List ℕ) (long : ℕ) (leg : Leg) (r : Result Moves OutOfRange)
    (near : long ≤ 20040020) (turned : leg.azimuth < circle)
    (n : told_move north r ≡ course_step (entry_in table) north long leg.azimuth)
    (w : told_move east r ≡ course_step (entry_in table) east long leg.azimuth) where
  abbrev e : ℕ → ℤ
  e = entry_in table

  pub moves_there : IsOk r
  moves_there = course_there e north long leg.azimuth r (omega arith) turned n

  module _ (m : Moves) (f : r ≡ Ok m) where
    move_is : (axis : Axis) → move_along axis m ≡ course e axis long leg.azimuth
    move_is north = course_is e north long leg.azimuth r (omega arith) turned n m f
    move_is east = course_is e east long leg.azimuth r (omega arith) turned w m f

    slight : (axis : Axis) → nat_abs (move_along axis m) ≤ 2010000
    slight axis =
        rw (move_is axis)
        (course_most e (lent_entries table) axis long leg.azimuth (omega arith) turned)

    pub moves_slight : (x : Vector) → x ≡ record { north = m.north; east = m.east }
        → Bounded (2 ^ 40) x
    moves_slight x i =
        rw i (record { north = omega (arith, slight north); east = omega (arith, slight east) })

    pub advanced_is : (s : Sums) (p x : Vector) (factor : ℕ) → p ≡ sum_of s.at x
        → x ≡ record { north = m.north; east = m.east } → long ≡ grid leg.distance factor
        → record { at = p; run = s.run + long } ≡ advanced e factor leg s
    advanced_is s p x factor h i j = rw (h, i, move_is north, move_is east, j)

-- ---- a balanced traverse whose fields are in range
-- the legs of such a traverse, in the front of a list
module _ (b : Frame) (legs : List Leg) (sound : Sound (with_legs b legs)) (few : length legs ≡ 64)
  where
    pub legs_over : length (take b.legs legs) ≡ b.legs
    legs_over = length-take-le b.legs legs (omega (arith, sound.few))

    module _ (k : ℕ) (h : k < length (take b.legs legs)) where
      low : k < b.legs
      low = omega (arith, legs_over)

      pub leg_sound :
          LegSound b.factor (get_or (take b.legs legs) k no_leg).distance
          (get_or (take b.legs legs) k no_leg).azimuth
      leg_sound =
          rw (
            get_or-take b.legs legs k no_leg low,
            ← get_or-map (λ (x : Leg). x.distance) legs k no_leg,
            ← get_or-map (λ (x : Leg). x.azimuth) legs k no_leg,
          ) (sound.leg k low)

      pub leg_on : (e : ℕ → ℤ) (s r : Sums) → s ≡ sums_at e (with_legs b legs) k
          → r ≡ advanced e b.factor (get_or (take b.legs legs) k no_leg) s
          → r ≡ sums_at e (with_legs b legs) (k + 1)
      unfolding run preliminary
      leg_on e s r i a =
          a ∙ rw (
            i,
            get_or-take b.legs legs k no_leg low,
            ← get_or-map (λ (x : Leg). x.distance) legs k no_leg,
            ← get_or-map (λ (x : Leg). x.azimuth) legs k no_leg,
            add-one k,
          )

pub run_most : (b : Balanced) → Sound b → (k : ℕ) → k ≤ b.legs → run (long_of b) k ≤ 20040020 * k
unfolding run
run_most b sound zero h = omega arith
run_most b sound (suc k) h =
    let leg = sound.leg k (omega arith) in
    omega (
      arith,
      run_most b sound k (omega arith),
      grid_most (get_or b.distances k 0) b.factor leg.near leg.most,
    )

module _ (e : ℕ → ℤ) (entries : Entries e) (b : Balanced) (sound : Sound b) where
  -- ---- how far a station may stand from the start, and how much may be run
  pub drift : (axis : Axis) (k : ℕ) → k ≤ b.legs
      → nat_abs (preliminary (line e axis b) k -ℤ pos (along axis b.from)) ≤ 2010000 * k
  unfolding preliminary
  drift axis zero h = let f = pos (along axis b.from) in
      rw (ring (f ∷ []) {x = f -ℤ f} {y = pos 0} (λ v. search exps) tt) (omega arith)
  drift axis (suc k) h =
      let p = preliminary (line e axis b) k in
      let f = pos (along axis b.from) in
      let leg = sound.leg k (omega arith) in
      let m = course e axis (long_of b k) (azimuth_of b k) in
      let near = grid_most (get_or b.distances k 0) b.factor leg.near leg.most in
      let q : p +ℤ m -ℤ f ≡ p -ℤ f +ℤ m = ring (p ∷ m ∷ f ∷ []) (λ v. search exps) tt in
      rw q (omega (
        arith,
        triangle (p -ℤ f) m,
        drift axis k (omega arith),
        course_most e entries axis (long_of b k) (azimuth_of b k) (omega (arith, near)) leg.turned,
      ))

  place_small : (axis : Axis) (k : ℕ) → k ≤ b.legs
      → nat_abs (preliminary (line e axis b) k) ≤ 2 ^ 40
  place_small axis k h =
      omega (
        arith,
        near_most (preliminary (line e axis b) k) (along axis b.from)
            (2010000 * k) (drift axis k h),
        sound.from axis,
        sound.few,
      )

  pub sums_small : (k : ℕ) (s : Sums) → k ≤ b.legs → s ≡ sums_at e b k → RoomForLeg s
  sums_small k s h i =
      rw i (record {
        at = record { north = place_small north k h; east = place_small east k h };
        run = omega (arith, run_most b sound k h, sound.few);
      })

-- ---- before the first leg
module _ (e : ℕ → ℤ) (b : Balanced) (s : Sums) (h : s ≡ begun b.from) where
  pub sums_first : s ≡ sums_at e b 0
  unfolding run preliminary
  sums_first = h

  pub kept_first : (l : List Sums) → set l 0 s ≡ filled (sums_at e b) 1 l
  unfolding filled
  kept_first l = rw sums_first

-- ---- the run, a leg at a time
module _ (e : ℕ → ℤ) (frame : Frame) (legs : List Leg) (k : ℕ) (s : Sums)
    (sound : Sound (with_legs frame legs)) (few : length legs ≡ 64)
    (i : s ≡ sums_at e (with_legs frame legs) k) where
  abbrev b : Balanced
  b = with_legs frame legs

  module _ (h : k < length (take frame.legs legs)) where
    pub room_on : Entries e → RoomForLeg s
    room_on entries =
        sums_small e entries b sound k s (omega (arith, legs_over frame legs sound few)) i

    module _ (r : Sums) (a : r ≡ advanced e frame.factor (get_or (take frame.legs legs) k no_leg) s)
      where
        pub sums_on : r ≡ sums_at e b (k + 1)
        sums_on = leg_on frame legs sound few k h e s r i a

        pub kept_on : (l m : List Sums) → l ≡ filled (sums_at e b) (k + 1) m
            → set l (k + 1) r ≡ filled (sums_at e b) (k + 1 + 1) m
        kept_on l m g = filled_on (sums_at e b) m (k + 1) r l g sums_on

  module _ (h : k ≤ length (take frame.legs legs)) (j : length (take frame.legs legs) ≤ k) where
    at_end : k ≡ frame.legs
    at_end = omega (arith, legs_over frame legs sound few)

    pub sums_last : s ≡ sums_at e b frame.legs
    sums_last = subst (λ (n : ℕ). s ≡ sums_at e b n) at_end i

    pub kept_last : (l m : List Sums) → l ≡ filled (sums_at e b) (k + 1) m → l ≡ kept_to e b m
    kept_last l m g = subst (λ (n : ℕ). l ≡ filled (sums_at e b) (n + 1) m) at_end g
