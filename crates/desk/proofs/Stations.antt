-- No station of a traverse whose fields are in range stands far from the first, by the entries of
-- any table of sines. So the words of an accepted traverse, and what is taken from its first
-- station, are in the ranges of the area step.
use Prim.Native.Nat.{ℕ, zero, suc, ◌+◌, ◌*◌, ◌^◌, ◌≤◌, ◌<◌}
use native.Mathlib.Omega.{arith}
use mathlib.Core.Path.{◌≡◌, refl, sym, ◌∙◌, ap}
use mathlib.Core.Bool.{Bool, true, ◌&&◌}
use mathlib.Core.List.{List, [], ◌∷◌, ◌++◌}
use borrow.Author.Tests.{le-leb}
use lib.Dec.{leb}
use lib.ListN.{length, get_or, length-append}
use lib.IntN.{ℤ, pos, nat_abs, neg_ℤ, ◌+ℤ◌, ◌-ℤ◌}
use Rattle.whole.proofs.Branch.{by_test}
use Rattle.whole.proofs.Laws.{abs_neg, near_most, triangle}
use Rattle.whole.proofs.Ring.{ring, exps}
use Rattle.sines.proofs.Own.{Entries}
use Rattle.steps.specs.Area.{good_offsets}
use Rattle.steps.specs.Closure.{closes}
use Rattle.steps.specs.Course.{Axis, north, east}
use Rattle.steps.proofs.Areas.{doubled_most}
use Rattle.steps.proofs.Sharing.{share_most}
use Rattle.desk.specs.Line.{run, run_all, preliminary, closure, share_at, adjusted}
use Rattle.desk.specs.Traverse.{along, long_of, line, word_index, with_stations, offset}
use Rattle.desk.specs.Traverse.{offsets_to, is_loop, area_of}
use Rattle.desk.specs.Answer.{told_traverse, closes_on, adjusted_traverse}
use Rattle.desk.specs.Inside.{with_legs, Sound, sums_at, kept_to, left, put_to, taken_from}
use Rattle.desk.specs.Inside.{AreaRanged, Figured}
use Rattle.std.specs.Prelude.{Ok}
use Rattle.desk.specs.declared.Figures.{Figures}
use Rattle.desk.specs.declared.Frame.{Frame}
use Rattle.desk.specs.declared.Leg.{Leg}
use Rattle.desk.specs.declared.Sums.{Sums}
use Rattle.desk.specs.declared.Closure.{Closure}
use Rattle.desk.specs.Angles.{Balanced}
use Rattle.desk.proofs.Compass.{run_up, first_fixed}
use Rattle.desk.proofs.Running.{drift}
use Rattle.desk.proofs.Settling.{far_run, placed_length, closes_near, test_is, put_length}
use Rattle.desk.proofs.Settling.{put_all_is}
use Rattle.desk.proofs.Words.{word_at_lem}

-- ---- the range of the area step
small_append : (xs ys : List ℤ) → good_offsets ys ≡ true → good_offsets (xs ++ ys) ≡ good_offsets xs
unfolding good_offsets
small_append [] ys e = e
small_append (z ∷ zs) ys e = ap (λ (t : Bool). leb (nat_abs z) 130000000 && t)
    (small_append zs ys e)

small_two : (y z : ℤ) → nat_abs y ≤ 130000000 → nat_abs z ≤ 130000000
    → good_offsets (y ∷ z ∷ []) ≡ true
unfolding good_offsets
small_two y z h i = rw (le-leb (nat_abs y) 130000000 h, le-leb (nat_abs z) 130000000 i)

module _ (e : ℕ → ℤ) (entries : Entries e) (b : Balanced) (sound : Sound b) where
  module _ (axis : Axis) (k : ℕ) (near : nat_abs (closure (line e axis b)) ≤ 26000)
      (h : k ≤ b.legs) where
    place_drift : nat_abs (adjusted (line e axis b) k -ℤ pos (along axis b.from)) ≤ 130000000
    unfolding adjusted
    place_drift =
        let l = line e axis b in
        let p = preliminary l k in
        let s = share_at l k in
        let f = pos (along axis b.from) in
        let q : p -ℤ s -ℤ f ≡ p -ℤ f +ℤ neg_ℤ s = ring (p ∷ s ∷ f ∷ []) (λ v. search exps) tt in
        let most = share_most (closure l) (run_all l) (far_run b sound) (run (long_of b) k)
        (run_up (long_of b) k b.legs h) in
        rw q (omega (
          arith,
          triangle (p -ℤ f) (neg_ℤ s),
          abs_neg s,
          drift e entries b sound axis k h,
          sound.few,
          most,
        ))

    offset_small : nat_abs (offset e b axis k) ≤ 130000000
    offset_small = rw (first_fixed (line e axis b) (far_run b sound)) place_drift

    pub place_small : (z : ℤ) → z ≡ adjusted (line e axis b) k → nat_abs z < 2 ^ 40
    place_small z g =
        rw g (omega (
          arith,
          near_most (adjusted (line e axis b) k)
              (along axis b.from) 130000000 place_drift,
          sound.from axis,
        ))

  module _ (near : (axis : Axis) → nat_abs (closure (line e axis b)) ≤ 26000) where
    offsets_small : (k : ℕ) → k ≤ b.legs → good_offsets (offsets_to e b k) ≡ true
    unfolding offsets_to good_offsets
    offsets_small zero h = refl
    offsets_small (suc k) h =
        small_append (offsets_to e b k) (offset e b north k ∷ offset e b east k ∷ [])
        (small_two (offset e b north k) (offset e b east k)
        (offset_small north k (near north) (omega arith))
        (offset_small east k (near east) (omega arith)))
        ∙ offsets_small k (omega arith)

    -- ---- in the words
    module _ (l words : List ℤ) (room : 130 ≤ length l)
        (g : words ≡ with_stations e b (b.legs + 1) l) where
      word : (axis : Axis) (k : ℕ) → k ≤ b.legs
          → get_or words (word_index axis k) (pos 0) ≡ adjusted (line e axis b) k
      word axis k h = rw g
          (word_at_lem e b l axis (b.legs + 1) k (omega arith) (omega (arith, sound.few)))

      taken_is : (k : ℕ) → k ≤ b.legs → taken_from words k ≡ offsets_to e b k
      unfolding taken_from offsets_to
      taken_is zero h = refl
      taken_is (suc k) h =
          rw (
            taken_is k (omega arith),
            word north k (omega arith),
            word east k (omega arith),
            word north 0 (omega arith),
            word east 0 (omega arith),
          )

      placed_words : AreaRanged b.legs words
      placed_words =
          record {
            some = sound.some;
            few = sound.few;
            room = rw (g, placed_length e b (b.legs + 1) l) room;
            each =
                λ k h.
                let n = place_small north k (near north) (omega arith) _
                (word north k (omega arith)) in
                let w = place_small east k (near east) (omega arith) _
                (word east k (omega arith)) in
                record { north = omega (arith, n); east = omega (arith, w) };
            near = rw (taken_is b.legs (omega arith)) (offsets_small b.legs (omega arith));
          }

    offsets_length : (k : ℕ) → length (offsets_to e b k) ≡ 2 * k
    unfolding offsets_to
    offsets_length zero = refl
    offsets_length (suc k) =
        omega (
          arith,
          length-append (offsets_to e b k) (offset e b north k ∷ offset e b east k ∷ []),
          offsets_length k,
        )

    pub area_most : nat_abs (area_of e b) ≤ 64 * 33800000000000000
    unfolding area_of
    area_most =
        let l = offsets_to e b b.legs in
        by_test (λ (z : ℤ). nat_abs z ≤ 64 * 33800000000000000) (is_loop b)
        (λ t. omega (
          arith,
          doubled_most l (offsets_small b.legs (omega arith)),
          offsets_length b.legs,
          sound.few,
        )) (λ t. omega arith)

-- ---- the second step, once its test is passed
module _ (e : ℕ → ℤ) (entries : Entries e) (frame : Frame) (legs : List Leg)
    (kept none : List Sums) (end : Sums) (c : Closure) (sound : Sound (with_legs frame legs))
    (room : length none ≡ 65) (ran : kept ≡ kept_to e (with_legs frame legs) none)
    (last : end ≡ sums_at e (with_legs frame legs) frame.legs) (is : c ≡ left frame.to end)
    (x : Bool) (t : x ≡ closes c.at.north.v c.at.east.v c.distance) (y : x ≡ true)
    (l : List ℤ) where
  abbrev b : Balanced
  b = with_legs frame legs

  passed : x ≡ closes_on e b
  passed = test_is e entries frame legs kept none end c sound room ran last is x t

  all_near : (axis : Axis) → nat_abs (closure (line e axis b)) ≤ 26000
  all_near axis = closes_near b sound e axis (sym passed ∙ y)

  -- the words are those of the adjusted stations, and in the ranges of the area step
  pub passed_words : 130 ≤ length l
      → AreaRanged frame.legs (put_to kept c (frame.legs + 1) l)
  passed_words wide = placed_words e entries b sound all_near l _ wide
      (put_all_is e entries frame legs kept none end c sound room ran last is l _ refl)

  pub passed_told : (words : List ℤ) (r : Figures) → words ≡ put_to kept c (frame.legs + 1) l
      → Figured frame c words r → told_traverse (Ok r) ≡ adjusted_traverse e b
  unfolding adjusted_traverse area_of
  passed_told words r g f =
      let wide : 130 ≤ length l =
      omega (
        arith,
        f.room,
        ap length g,
        put_length kept c (frame.legs + 1) l,
      ) in
      let taken = taken_is e entries b sound all_near l words wide
      (put_all_is e entries frame legs kept none end c sound room ran last is l words g) b.legs
      (omega arith) in
      rw (
        ← passed,
        y,
        f.legs,
        f.w,
        f.north,
        f.east,
        f.precise,
        f.looped,
        f.area,
        taken,
        is,
        last,
      )
