-- The steps of the angles: one whose input is in range gives its value, and an azimuth is within
-- the circle, being a remainder by it. A list in which the first legs are balanced still has the
-- carried azimuth of each later one.
use Prim.Native.Nat.{ℕ, ◌+◌, ◌-◌, ◌%◌, ◌≤◌, ◌<◌}
use native.Mathlib.Omega.{arith}
use native.Mathlib.Nat.{mod-lt}
use mathlib.Core.Path.{◌≡◌, ◌∙◌, ap}
use mathlib.Core.Bool.{Bool, true, ◌&&◌}
use mathlib.Core.List.{List, [], ◌∷◌, ◌++◌}
use borrow.Author.Tests.{le-leb, lt-ltb}
use lib.ListN.{length, get_or, set, take, drop, length-replicate}
use lib.IntN.{ℤ, pos, nat_abs, neg_ℤ}
use Rattle.whole.specs.Order.{◌≤ᶻ◌, ◌<ᶻ◌}
use Rattle.whole.proofs.Diff.{vars, ints, abs_under, le, lt}
use lib.Dec.{leb, ltb}
use Rattle.std.specs.Prelude.{Result, Ok, IsOk}
use Rattle.answer.specs.declared.OutOfRange.{OutOfRange}
use Rattle.whole.specs.declared.Whole.{Whole}
use Rattle.answer.specs.Told.{told_amount, told_count, told_verdict, inside, passes}
use Rattle.answer.proofs.Telling.{has_value, value_told, one_flag, both, inside_yes}
use Rattle.minutes.specs.Quadrant.{circle}
use Rattle.steps.specs.Azimuth.{half_circle, misclosure, closes_angles, balanced, of_angles}
use Rattle.steps.specs.Azimuth.{misclosure_step, misclosure_test, balanced_step}
use Rattle.steps.specs.Share.{share, angle_share_step}
use Rattle.steps.proofs.Sharing.{share_most}
use Rattle.steps.proofs.Turning.{misclosure_is}
use Rattle.desk.specs.Angles.{distance_at, turns_of, misclosure_of, zeros, balanced_traverse}
use Rattle.desk.specs.Traverse.{azimuth_of}
use Rattle.desk.specs.Turns.{balanced_at}
use Rattle.desk.specs.Inside.{Ready, Sound, no_leg, leg_at, AllTurned, balanced_leg, balanced_in}
use Rattle.desk.specs.declared.Leg.{Leg}
use Rattle.tape.specs.Fields.{Fields}
use Rattle.std.proofs.lemmas.List.{get_or-take, length-take-le}
use Rattle.whole.specs.Filled.{filled}
use Rattle.whole.proofs.Filling.{filled_at, filled_after, filled_on, filled_whole}
use Rattle.desk.proofs.Scaling.{combined_range}
use Rattle.desk.proofs.Turning.{balanced_most, balanced_at_turned, filled_balanced_at}

-- ---- an azimuth from two angles
module _ (r : Result ℕ OutOfRange) (a b x : ℕ) (e : told_count r ≡ of_angles a b (pos (x % circle)))
    (h : a < circle) (i : b < circle) where
  both_turned : (ltb a circle && ltb b circle) ≡ true
  both_turned = both _ _ (lt-ltb a circle h) (lt-ltb b circle i)

  pub azimuth_there : IsOk r
  azimuth_there = has_value pos r _ _ e both_turned

  module _ (n : ℕ) (f : r ≡ Ok n) where
    pub azimuth_is : n ≡ x % circle
    azimuth_is = ap nat_abs (value_told pos r n _ _ e both_turned f)

    pub azimuth_turned : n < circle
    azimuth_turned = rw azimuth_is (mod-lt x (omega arith))

-- ---- the misclosure
pub misclosure_most : (carried given : ℕ) → nat_abs (misclosure carried given) ≤ half_circle
misclosure_most carried given = let m = misclosure_is carried given in
    sized (misclosure carried given) m.above m.most
  where
    sized : (w : ℤ) → neg_ℤ (pos half_circle) <ᶻ w → w ≤ᶻ pos half_circle → nat_abs w ≤ half_circle
    sized w a b = let v = vars (w ∷ []) in
        abs_under w (search ints) (omega (arith, lt a (search ints), le b (search ints)))

module _ (r : Result Bool OutOfRange) (w : ℤ) (n : ℕ) (e : told_verdict r ≡ misclosure_test w n)
    (small : nat_abs w ≤ 6480000) (low : 1 ≤ n) (high : n ≤ 64) where
  tested : (leb (nat_abs w) 6480000 && inside 1 64 n) ≡ true
  tested = both _ _ (le-leb (nat_abs w) 6480000 small) (inside_yes 1 64 n low high)

  pub verdict_there : IsOk r
  verdict_there = has_value passes r _ _ e tested

  pub angles_close : (x : Bool) → r ≡ Ok x → x ≡ closes_angles w n
  angles_close x f = one_flag x _ (value_told passes r x _ _ e tested f)

-- ---- the balanced azimuth of a leg
module _ (p : Result Whole OutOfRange) (w : ℤ) (j angles : ℕ)
    (g : told_amount p ≡ angle_share_step w j (angles - 1)) (small : nat_abs w ≤ 6480000)
    (reach : j ≤ angles) (some : 2 ≤ angles) (few : angles ≤ 65) where
  shared : (leb (nat_abs w) 6480000 && inside 1 64 (angles - 1) && leb j (angles - 1 + 1)) ≡ true
  shared =
      both _ _ (both _ _ (le-leb (nat_abs w) 6480000 small)
      (inside_yes 1 64 (angles - 1) (omega arith) (omega arith)))
      (le-leb j (angles - 1 + 1) (omega arith))

  pub part_there : IsOk p
  part_there = has_value (λ z. z.v) p _ _ g shared

  module _ (s : Whole) (i : p ≡ Ok s) where
    part_is : s.v ≡ share w j angles
    part_is =
        let one_more : angles - 1 + 1 ≡ angles = omega arith in
        value_told (λ z. z.v) p s _ _ g shared i ∙ ap (share w j) one_more

    part_small : nat_abs s.v ≤ 6480000
    part_small = rw part_is (omega (arith, share_most w angles (omega arith) j reach))

    module _ (r : Result ℕ OutOfRange) (azimuth : ℕ) (e : told_count r ≡ balanced_step azimuth s.v)
        (turned : azimuth < circle) where
      in_range_lem : (ltb azimuth circle && leb (nat_abs s.v) 6480000) ≡ true
      in_range_lem = both _ _ (lt-ltb azimuth circle turned)
          (le-leb (nat_abs s.v) 6480000 part_small)

      pub balanced_there : IsOk r
      balanced_there = has_value pos r _ _ e in_range_lem

      module _ (n : ℕ) (f : r ≡ Ok n) where
        pub balanced_is : n ≡ balanced azimuth (share w j angles)
        balanced_is =
            ap nat_abs (value_told pos r n _ _ e in_range_lem f) ∙ ap (balanced azimuth) part_is

        pub balanced_turned : n < circle
        balanced_turned = rw balanced_is (balanced_most azimuth (share w j angles))

-- ---- in the place of each of the first n legs the balanced one
module _ (w : ℤ) (n ahead angles k : ℕ) (l m : List Leg) (t : AllTurned n l)
    (e : m ≡ filled (balanced_leg w ahead angles l) k (take n l)) where
  module _ (h : k < length (take n l)) where
    unbalanced_yet : leg_at m k ≡ leg_at l k
    unbalanced_yet =
        let low : k < n = omega (arith, length-take-le n l t.room) in
        rw e (filled_after (balanced_leg w ahead angles l) (take n l) no_leg k k (omega arith))
        ∙ get_or-take n l k no_leg low

    pub balancing_turned : (leg_at m k).azimuth < 12960000
    balancing_turned =
        rw unbalanced_yet (t.each k (omega (arith, length-take-le n l t.room)))

    pub balancing_next : (r : ℕ) → r ≡ balanced (leg_at m k).azimuth (share w (k + ahead) angles)
        → set m k (record { azimuth = r; distance = (leg_at m k).distance })
        ≡ filled (balanced_leg w ahead angles l) (k + 1) (take n l)
    balancing_next r g =
        filled_on (balanced_leg w ahead angles l) (take n l) k _ m e (rw (g, unbalanced_yet))

  pub balancing_last : k ≤ length (take n l) → length (take n l) ≤ k
      → m ++ drop n l ≡ balanced_in w ahead angles n l
  balancing_last h i =
      let f : k ≡ n = omega (arith, length-take-le n l t.room) in
      filled_whole (balanced_leg w ahead angles l) l m n t.room (rw f at e)

-- ---- the misclosure
module _ (r : Result Whole OutOfRange) (closing given : ℕ)
    (e : told_amount r ≡ misclosure_step closing given) (h : closing < circle) (i : given < circle)
  where
    within : (ltb closing circle && ltb given circle) ≡ true
    within = both _ _ (lt-ltb closing circle h) (lt-ltb given circle i)

    pub misclosure_there : IsOk r
    misclosure_there = has_value (λ z. z.v) r _ _ e within

    module _ (w : Whole) (f : r ≡ Ok w) where
      pub misclosure_value : w.v ≡ misclosure closing given
      misclosure_value = value_told (λ z. z.v) r w _ _ e within f

      pub misclosure_small : nat_abs w.v ≤ 6480000
      misclosure_small = rw misclosure_value (misclosure_most closing given)

-- ---- the traverse with its angles balanced
module _ (f : Fields) where
  -- the azimuth that leg k has in it is its balanced one
  pub leg_azimuth : (k : ℕ) → k < f.line.legs → f.line.legs ≤ 64
      → azimuth_of (balanced_traverse f) k ≡ balanced_at (turns_of f) (misclosure_of f) k
  unfolding balanced_traverse
  leg_azimuth k h few =
      let room : f.line.legs ≤ length zeros = omega (arith, length-replicate {A = ℕ} 64 0) in
      filled_balanced_at (turns_of f) f.line.legs zeros room (misclosure_of f) k h

  -- and the distance is the measured one
  leg_measured : (k : ℕ) → k < f.line.legs → f.line.legs ≤ 64
      → get_or (balanced_traverse f).distances k 0 ≡ distance_at f k
  unfolding balanced_traverse
  leg_measured k h few =
      filled_at (distance_at f) zeros 0 f.line.legs k
      (omega (arith, length-replicate {A = ℕ} 64 0)) h

  pub sound_of : Ready f → Sound (balanced_traverse f)
  unfolding balanced_traverse
  sound_of r =
      let s = combined_range f.site.elevation.v f.site.scale r.elevation r.scale_low
      r.scale_high in
      record {
        some = r.some;
        few = r.few;
        leg =
            λ k h.
            record {
              least = s.0;
              most = s.1;
              far = rw (leg_measured k h r.few) (r.far k h);
              near = rw (leg_measured k h r.few) (r.near k h);
              turned = rw (leg_azimuth k h r.few) (balanced_at_turned (turns_of f) _ k);
            };
        from = r.from;
        to = r.to;
      }
