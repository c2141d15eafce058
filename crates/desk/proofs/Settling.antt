-- The end of the run: what is left there is the closure, small enough for every step, and each
-- station less its share of it is the adjusted one.
use Prim.Native.Nat.{ℕ, zero, suc, ◌+◌, ◌*◌, ◌≤◌, ◌<◌}
use native.Mathlib.Omega.{arith}
use native.Mathlib.Numerals.{add-one}
use mathlib.Core.Path.{◌≡◌, refl, ◌∙◌, ap}
use mathlib.Core.Bool.{Bool, true, false, ◌&&◌}
use mathlib.Core.List.{List, [], ◌∷◌}
use native.Mathlib.Decide.{dec_le}
use borrow.Author.Tests.{le-leb, leb-true}
use lib.ListN.{length, get_or, take, length-set}
use Rattle.std.proofs.lemmas.List.{get_or-take, length-take-le}
use lib.IntN.{ℤ, pos, nat_abs, ◌+ℤ◌, ◌-ℤ◌}
use Rattle.whole.proofs.Diff.{abs_under, ints}
use Rattle.whole.proofs.Laws.{triangle}
use Rattle.whole.proofs.Ring.{ring, exps}
use lib.Dec.{leb}
use Rattle.std.specs.Prelude.{Result, Ok, IsOk}
use Rattle.answer.specs.declared.OutOfRange.{OutOfRange}
use Rattle.whole.specs.declared.Whole.{Whole}
use Rattle.answer.specs.Told.{told_count, told_verdict, told_amount, passes, inside}
use Rattle.answer.proofs.Telling.{has_value, value_told, one_flag, both, inside_yes, flag_yes}
use Rattle.steps.specs.Closure.{closes, closure_test, precision, precision_step}
use Rattle.steps.specs.Course.{Axis, north, east}
use Rattle.steps.specs.Distance.{grid}
use Rattle.steps.specs.Share.{share, share_step}
use Rattle.desk.specs.Line.{run, preliminary, closure, adjusted}
use Rattle.desk.specs.Traverse.{along, long_of, line, with_stations}
use Rattle.desk.specs.Answer.{refused_traverse, north_closure, east_closure, distance_run}
use Rattle.desk.specs.Answer.{closes_on, adjusted_traverse, adjusted_words}
use Rattle.desk.specs.Inside.{with_legs, Sound, RoomForLeg, Bounded, less, sums_at, kept_at}
use Rattle.desk.specs.Inside.{kept_to, left, closed, share_of, Near, Part, Shared, put_at, put_to}
use Rattle.desk.specs.declared.vector.Vector.{Vector}
use Rattle.desk.specs.Angles.{Balanced}
use Rattle.desk.specs.declared.Frame.{Frame}
use Rattle.desk.specs.declared.Leg.{Leg}
use Rattle.desk.specs.declared.Sums.{Sums}
use Rattle.desk.specs.declared.Closure.{Closure}
use Rattle.steps.proofs.Sharing.{share_most}
use Rattle.steps.proofs.Laws.{product_most, square_most}
use Rattle.desk.proofs.Compass.{run_up}
use Rattle.desk.proofs.Running.{drift, run_most, sums_small}
use Rattle.whole.proofs.Filling.{filled_at}
use Rattle.sines.proofs.Own.{Entries}

-- ---- the steps, whose input is in range
module _ (r : Result Bool OutOfRange) (n e : ℤ) (s : ℕ) (t : told_verdict r ≡ closure_test n e s)
    (hn : nat_abs n ≤ 1200000000) (he : nat_abs e ≤ 1200000000) (low : 1 ≤ s)
    (high : s ≤ 1300000000) where
  tested : (leb (nat_abs n) 1200000000 && leb (nat_abs e) 1200000000 && inside 1 1300000000 s)
      ≡ true
  tested =
      both _ _ (both _ _ (le-leb (nat_abs n) 1200000000 hn) (le-leb (nat_abs e) 1200000000 he))
      (inside_yes 1 1300000000 s low high)

  pub within_there : IsOk r
  within_there = has_value passes r _ _ t tested

  pub within_is : (x : Bool) → r ≡ Ok x → x ≡ closes n e s
  within_is x f = one_flag x _ (value_told passes r x _ _ t tested f)

-- within the limit no closure is above 260 feet
side_small : (a : ℕ) → a * a ≤ 676000000 → a ≤ 26000
side_small a h =
    elim (dec_le a 26000) [
      | yes i ↦ i
      | no i ↦ absurd (omega (arith, product_most 26001 26001 a a (omega arith) (omega arith)))
    ]

module _ (x : Bool) (n e : ℤ) (s : ℕ) (f : x ≡ closes n e s) (h : x ≡ true)
    (high : s ≤ 1300000000) where
  under : 50000 * 50000 * (nat_abs n * nat_abs n + nat_abs e * nat_abs e) ≤ s * s
  unfolding closes
  under = leb-true _ _ (flag_yes x _ f h)

  pub north_near : nat_abs n ≤ 26000
  north_near = side_small (nat_abs n) (omega (arith, under, square_most s high))

  pub east_near : nat_abs e ≤ 26000
  east_near = side_small (nat_abs e) (omega (arith, under, square_most s high))

module _ (r : Result ℕ OutOfRange) (n e : ℤ) (s : ℕ) (t : told_count r ≡ precision_step n e s)
    (hn : nat_abs n ≤ 26000) (he : nat_abs e ≤ 26000) (low : 1 ≤ s) (high : s ≤ 1300000000) where
  precise : (leb (nat_abs n) 26000 && leb (nat_abs e) 26000 && inside 1 1300000000 s) ≡ true
  precise =
      both _ _ (both _ _ (le-leb (nat_abs n) 26000 hn) (le-leb (nat_abs e) 26000 he))
      (inside_yes 1 1300000000 s low high)

  pub precision_there : IsOk r
  precision_there = has_value pos r _ _ t precise

  pub precision_value : (p : ℕ) → r ≡ Ok p → p ≡ precision n e s
  precision_value p f = ap nat_abs (value_told pos r p _ _ t precise f)

module _ (r : Result Whole OutOfRange) (closure : ℤ) (part all : ℕ)
    (t : told_amount r ≡ share_step closure part all) (small : nat_abs closure ≤ 26000)
    (h : part ≤ all) (low : 1 ≤ all) (high : all ≤ 1300000000) where
  shares : (leb (nat_abs closure) 26000 && inside 1 1300000000 all && leb part all) ≡ true
  shares =
      both _ _ (both _ _ (le-leb (nat_abs closure) 26000 small)
      (inside_yes 1 1300000000 all low high)) (le-leb part all h)

  pub share_there : IsOk r
  share_there = has_value (λ z. z.v) r _ _ t shares

  module _ (v : Whole) (f : r ≡ Ok v) where
    pub share_is : v.v ≡ share closure part all
    share_is = value_told (λ z. z.v) r v _ _ t shares f

    pub share_small : nat_abs v.v ≤ 26000
    share_small = rw share_is (omega (arith, share_most closure all low part h))

-- no grid distance is zero
grid_least : (distance factor : ℕ) → 1000 ≤ distance → 9980000 ≤ factor → 1 ≤ grid distance factor
unfolding grid
grid_least distance factor h i = omega (arith, product_most 1000 9980000 distance factor h i)

pub placed_length : (e : ℕ → ℤ) (b : Balanced) (k : ℕ) (l : List ℤ)
    → length (with_stations e b k l) ≡ length l
unfolding with_stations
placed_length e b zero l = refl
placed_length e b (suc k) l = simp length-set (placed_length e b k l)

module _ (b : Balanced) (sound : Sound b) where
  -- the first leg has some length
  pub far_run : 1 ≤ run (long_of b) b.legs
  unfolding run
  far_run = let leg = sound.leg 0 (omega (arith, sound.some)) in
      omega (
        arith,
        run_up (long_of b) 1 b.legs sound.some,
        grid_least _ _ leg.far leg.least,
      )

  pub run_small : run (long_of b) b.legs ≤ 1300000000
  run_small = omega (arith, run_most b sound b.legs (omega arith), sound.few)

  -- a traverse that passes the test
  pub closes_near : (e : ℕ → ℤ) (axis : Axis) → closes_on e b ≡ true
      → nat_abs (closure (line e axis b)) ≤ 26000
  unfolding closes_on
  closes_near e north t =
      north_near (closes_on e b) (north_closure e b) (east_closure e b)
      (distance_run b) refl t run_small
  closes_near e east t =
      east_near (closes_on e b) (north_closure e b) (east_closure e b) (distance_run b) refl t
      run_small

-- ---- the words, a station at a time
module _ (kept : List Sums) (c : Closure) where
  pub put_length : (k : ℕ) (l : List ℤ) → length (put_to kept c k l) ≡ length l
  unfolding put_to
  put_length zero l = refl
  put_length (suc k) l = simp length-set (put_length k l)

  module _ (n k : ℕ) (few : length kept ≡ 65) (s : Shared n kept c) where
    stations_over : length (take (n + 1) kept) ≡ n + 1
    stations_over = length-take-le (n + 1) kept (omega (arith, s.few))

    abbrev here : Sums
    here = get_or (take (n + 1) kept) k (kept_at [] 0)

    module _ (h : k < length (take (n + 1) kept)) where
      here_is : here ≡ kept_at kept k
      here_is = get_or-take (n + 1) kept k (kept_at [] 0) (omega (arith, stations_over))

      pub part : Part here c
      part = rw here_is (s.each k (omega (arith, stations_over)))

      module _ (l m : List ℤ) (g : m ≡ put_to kept c k l) where
        pub put_next : (r : List ℤ) (x p : Vector) → p ≡ share_of c here.run → x ≡ less here.at p
            → r ≡ put_at k x m → r ≡ put_to kept c (k + 1) l
        unfolding put_to
        put_next r x p i j f = f ∙ rw (j, i, g, here_is, add-one k)

-- ---- the end of the run
module _ (e : ℕ → ℤ) (entries : Entries e) (b : Balanced) (sound : Sound b) where
  -- a closure is the way from start to end, less that from start to fixed end
  closure_small : (axis : Axis) → nat_abs (closure (line e axis b)) ≤ 1200000000
  closure_small axis =
      let p = preliminary (line e axis b) b.legs in
      let f = along axis b.from in
      let t = along axis b.to in
      let q : p -ℤ pos t ≡ p -ℤ pos f +ℤ (pos f -ℤ pos t) =
      ring (p ∷ pos f ∷ pos t ∷ []) (λ v. search exps) tt in
      let apart : nat_abs (pos f -ℤ pos t) ≤ 1000000000 =
      abs_under (pos f -ℤ pos t) (search ints)
      (omega (arith, sound.from axis), omega (arith, sound.to axis)) in
      rw q (omega (
        arith,
        triangle (p -ℤ pos f) (pos f -ℤ pos t),
        drift e entries b sound axis b.legs (omega arith),
        apart,
        sound.few,
      ))

  pub end_small : (end : Sums) → end ≡ sums_at e b b.legs → RoomForLeg end
  end_small end i = sums_small e entries b sound b.legs end (omega arith) i

-- ---- after it
module _ (e : ℕ → ℤ) (entries : Entries e) (frame : Frame) (legs : List Leg)
    (kept none : List Sums) (end : Sums) (c : Closure) (sound : Sound (with_legs frame legs))
    (room : length none ≡ 65) (ran : kept ≡ kept_to e (with_legs frame legs) none)
    (last : end ≡ sums_at e (with_legs frame legs) frame.legs) (is : c ≡ left frame.to end) where
  abbrev b : Balanced
  b = with_legs frame legs

  closed_is : c ≡ closed e b
  closed_is = is ∙ rw last

  -- what is left is within the ranges of the test
  pub closure_within : Bounded 1200000000 c.at
  closure_within =
      rw closed_is (record {
        north = closure_small e entries b sound north;
        east = closure_small e entries b sound east;
      })

  pub run_far : 1 ≤ c.distance
  run_far = rw closed_is (far_run b sound)

  pub run_most_left : c.distance ≤ 1300000000
  run_most_left = rw closed_is (run_small b sound)

  -- every station's part of the distance run is a part of the whole
  kept_is : (k : ℕ) → k ≤ frame.legs → kept_at kept k ≡ sums_at e b k
  kept_is k h =
      rw ran (filled_at (sums_at e b) none (kept_at [] 0) (frame.legs + 1) k
      (omega (arith, sound.few)) (omega arith))

  pub shared : Shared frame.legs kept c
  shared =
      record {
        few = sound.few;
        each =
            λ k h.
            let i = kept_is k h in
            record {
              at = (sums_small e entries b sound k (kept_at kept k) h i).at;
              run = rw (i, closed_is) (run_up (long_of b) k b.legs h);
            };
      }

  -- and what is put is the adjusted stations
  put_is : (k : ℕ) (l : List ℤ) → k ≤ frame.legs + 1 → put_to kept c k l ≡ with_stations e b k l
  unfolding put_to with_stations adjusted
  put_is zero l h = refl
  put_is (suc k) l h = rw (put_is k l (omega arith), kept_is k (omega arith), closed_is)

  pub put_all_is : (l m : List ℤ) → m ≡ put_to kept c (frame.legs + 1) l
      → m ≡ with_stations e b (b.legs + 1) l
  put_all_is l m g = g ∙ put_is (b.legs + 1) l (omega arith)

  -- ---- the answer, by the test
  module _ (x : Bool) (t : x ≡ closes c.at.north.v c.at.east.v c.distance) where
    pub test_is : x ≡ closes_on e b
    unfolding closes_on
    test_is = t ∙ rw closed_is

    pub near : x ≡ true → Near c
    near y =
        record {
          at = record {
            north = north_near x c.at.north.v c.at.east.v c.distance t y run_most_left;
            east = east_near x c.at.north.v c.at.east.v c.distance t y run_most_left;
          };
          far = run_far;
          most = run_most_left;
        }

    pub closure_far : x ≡ false → refused_traverse 9 frame.place ≡ adjusted_traverse e b
    unfolding adjusted_traverse
    closure_far y = rw (← test_is, y)

    pub words_far : (l : List ℤ) → x ≡ false → l ≡ adjusted_words e b l
    unfolding adjusted_words
    words_far l y = rw (← test_is, y)

    pub words_near : (l m : List ℤ) → x ≡ true → m ≡ put_to kept c (frame.legs + 1) l
        → m ≡ adjusted_words e b l
    unfolding adjusted_words
    words_near l m y f = rw (← test_is, y) (put_all_is l m f)
