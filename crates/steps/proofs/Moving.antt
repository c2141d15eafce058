-- Latitudes and departures by the sizes and signs of a sine and a cosine, for both axes alike, at
-- once and one by one.
use mathlib.Core.Path.{◌≡◌, refl, sym, ◌∙◌, ap}
use mathlib.Core.Bool.{Bool, true, false, ◌&&◌}
use mathlib.Core.List.{List, [], ◌∷◌}
use Prim.Native.Nat.{ℕ, ◌+◌, ◌*◌, ◌≤◌, ◌<◌}
use native.Mathlib.Nat.{mod-lt}
use native.Mathlib.Decide.{dec_lt}
use native.Mathlib.Omega.{arith}
use borrow.Author.Tests.{le-leb, lt-leb, lt-ltb, le-ltb}
use lib.Dec.{leb, ltb, eqb}
use lib.Signed.{lt_z}
use lib.IntN.{ℤ, pos, negsuc, neg_ℤ, nat_abs, ◌*ℤ◌}
use Rattle.whole.specs.Nearest.{nearest, half_up}
use Rattle.whole.specs.declared.Whole.{Whole}
use Rattle.whole.proofs.Ring.{ring, exps}
use Rattle.whole.proofs.Rounding.{nearest_neg}
use Rattle.std.proofs.Common.{Result, Ok, Err, IsOk}
use Rattle.answer.specs.Told.{ToldStep, told, told_amount, in_range}
use Rattle.answer.specs.declared.OutOfRange.{OutOfRange}
use Rattle.answer.proofs.Telling.{tells, refuses, has_value, value_told, both, not_first}
use Rattle.answer.proofs.Telling.{not_second}
use Rattle.minutes.specs.Entry.{Table, entry}
use Rattle.minutes.specs.Quadrant.{circle, signed_by, quarter_ahead}
use Rattle.sines.specs.Sine.{entry_in, of_angle, turned_by}
use Rattle.sines.specs.declared.Sides.{Sides}
use Rattle.sines.proofs.Own.{Entries, sine_size, lent_entries, own_entries}
use Rattle.sines.proofs.Turns.{no_circle, in_circle, sine_most, cosine_most, sine_signed}
use Rattle.sines.proofs.Turns.{cosine_signed}
use Rattle.steps.specs.Course.{Axis, north, east, move, sine_along, course, course_step}
use Rattle.steps.specs.Course.{move_along, told_move}
use Rattle.steps.specs.declared.course.Moves.{Moves}
use Rattle.steps.proofs.Laws.{product_most}

-- ---- a move by the size of its sine: the other way round from the sine
module _ (distance size : ℕ) where
  -- the product before it is divided is no large number
  pub product_small : distance ≤ 20100000 → size ≤ 1000000000 → distance * size ≤ 20100000000000000
  product_small h k = product_most distance size 20100000 1000000000 h k

  module _ (k n : ℕ) (f : k ≡ size) (is : n ≡ half_up (distance * k) 10000000000) (negative : Bool)
      (v : ℤ) where
    pub by_negative : v ≡ pos n → negative ≡ true
        → v ≡ move distance (signed_by negative (pos size))
    unfolding move signed_by nearest
    by_negative e b = e ∙ rw (is, f, b, product)
      where
        product : neg_ℤ (neg_ℤ (pos size) *ℤ pos distance) ≡ pos (distance * size)
        product = ring (pos size ∷ pos distance ∷ []) (λ u. search exps) tt

    pub by_positive : (w : ℤ) → v ≡ neg_ℤ w → w ≡ pos n → negative ≡ false
        → v ≡ move distance (signed_by negative (pos size))
    unfolding move signed_by nearest
    by_positive w e g b =
        e ∙ rw (g, is, f, b, product, nearest_neg (pos (distance * size)) 10000000000 (omega arith))
      where
        product : neg_ℤ (pos size *ℤ pos distance) ≡ neg_ℤ (pos (distance * size))
        product = ring (pos size ∷ pos distance ∷ []) (λ u. search exps) tt

-- ---- what is told of a leg along an axis, where f tells the number of an answer
module _ {A : Type 0} (f : A → ℤ) (e : ℕ → ℤ) (axis : Axis) (distance azimuth : ℕ) where
  pub too_long : (x : OutOfRange) → 20100000 < distance
      → told f (Err x) ≡ course_step e axis distance azimuth
  too_long x h = refuses f x _ _ (not_first _ _ (lt-leb distance 20100000 h))

  pub no_azimuth : (x : OutOfRange) → ltb azimuth circle ≡ false
      → told f (Err x) ≡ course_step e axis distance azimuth
  no_azimuth x h = refuses f x _ _ (not_second (leb distance 20100000) _ h)

  is_told : (v : A) (z : ℤ) → distance ≤ 20100000 → ltb azimuth circle ≡ true
      → f v ≡ move distance z → z ≡ sine_along e axis azimuth
      → told f (Ok v) ≡ course_step e axis distance azimuth
  is_told v z h k m i =
      tells f _ v _ (both _ _ (le-leb distance 20100000 h) k) (m ∙ ap (move distance) i)

-- ---- by both sides of the azimuth
-- the sine that counts along an axis
abbrev side_along : Axis → Sides → ℤ
side_along north s = signed_by s.cosine.negative (pos s.cosine.size)
side_along east s = signed_by s.sine.negative (pos s.sine.size)

module _ (t : List ℕ) (azimuth : ℕ) (r : Result Sides OutOfRange)
    (g : r ≡ turned_by (entry_in t) azimuth) where
  pub no_sides : (axis : Axis) (distance : ℕ) (x y : OutOfRange) → r ≡ Err x
      → told_move axis (Err y) ≡ course_step (entry_in t) axis distance azimuth
  unfolding told
  no_sides axis distance x y f =
      no_azimuth (move_along axis) (entry_in t) axis distance azimuth y
      (le-ltb azimuth circle (no_circle (entry_in t) azimuth x (sym f ∙ g)))

  module _ (s : Sides) (f : r ≡ Ok s) where
    pub sine_small : s.sine.size ≤ 1000000000
    sine_small = sine_most (entry_in t) (lent_entries t) azimuth s (sym f ∙ g)

    pub cosine_small : s.cosine.size ≤ 1000000000
    cosine_small = cosine_most (entry_in t) (lent_entries t) azimuth s (sym f ∙ g)

    side_is : (axis : Axis) → side_along axis s ≡ sine_along (entry_in t) axis azimuth
    unfolding sine_along
    side_is north = cosine_signed (entry_in t) (lent_entries t) azimuth s (sym f ∙ g)
    side_is east = sine_signed (entry_in t) (lent_entries t) azimuth s (sym f ∙ g)

    pub side_told : (axis : Axis) (distance : ℕ) (m : Moves) → distance ≤ 20100000
        → move_along axis m ≡ move distance (side_along axis s)
        → told_move axis (Ok m) ≡ course_step (entry_in t) axis distance azimuth
    side_told axis distance m h e =
        is_told (move_along axis) (entry_in t) axis distance azimuth m _ h
        (lt-ltb azimuth circle (in_circle (entry_in t) (lent_entries t) azimuth s (sym f ∙ g)))
        e (side_is axis)

-- ---- for a caller whose leg is in range: that there are moves, and which they are
module _ (e : ℕ → ℤ) (axis : Axis) (distance azimuth : ℕ) (r : Result Moves OutOfRange)
    (near : distance ≤ 20100000) (within : azimuth < circle)
    (g : told_move axis r ≡ course_step e axis distance azimuth) where
  in_leg : (leb distance 20100000 && ltb azimuth circle) ≡ true
  in_leg = both _ _ (le-leb distance 20100000 near) (lt-ltb azimuth circle within)

  pub moves_there : IsOk r
  moves_there = has_value (move_along axis) r _ _ g in_leg

  pub move_given : (told_move axis r).value ≡ course e axis distance azimuth
  move_given = rw (g, le-leb distance 20100000 near, lt-ltb azimuth circle within)

  pub move_is : (m : Moves) → r ≡ Ok m → move_along axis m ≡ course e axis distance azimuth
  move_is m f = value_told (move_along axis) r m _ _ g in_leg f

-- ---- one move by a sine that was told, which is its size with its sign
signed : (z : ℤ) → signed_by (lt_z z (pos 0)) (pos (nat_abs z)) ≡ z
unfolding signed_by
signed (pos n) = rw (le-ltb n 0 (omega arith))
signed (negsuc n) = refl

pub by_sign : (distance size : ℕ) (negative : Bool) (z v : ℤ) → negative ≡ lt_z z (pos 0)
    → size ≡ nat_abs z → v ≡ move distance (signed_by negative (pos size)) → v ≡ move distance z
by_sign distance size negative z v b g m = m ∙ ap (move distance) (rw (b, g) (signed z))

-- no sine that counts along an axis is above 1
pub along_most : (e : ℕ → ℤ) → Entries e → (axis : Axis) (azimuth : ℕ) → azimuth < circle
    → nat_abs (sine_along e axis azimuth) ≤ 1000000000
unfolding sine_along
along_most e entries north azimuth h =
    sine_size e entries (quarter_ahead azimuth) (mod-lt (azimuth + 3240000) (omega arith))
along_most e entries east azimuth h = sine_size e entries azimuth h

-- the telling of a move by what was told of its sine: where that was refused, so is the move
abbrev move_told : ℕ → ToldStep → ToldStep
move_told distance sine =
    in_range (leb distance 20100000 && eqb sine.number 0) (move distance sine.value)

module _ (e : ℕ → ℤ) (axis : Axis) (azimuth : ℕ) (s : Result Whole OutOfRange)
    (g : told_amount s ≡ of_angle azimuth (sine_along e axis azimuth)) where
  pub along_small : Entries e → nat_abs (told_amount s).value ≤ 1000000000
  along_small entries =
      elim (dec_lt azimuth circle) [
        | yes h ↦
            rw (g, lt-ltb azimuth circle h) (along_most e entries axis azimuth h)
        | no h ↦ rw (g, le-ltb azimuth circle (omega arith)) (omega arith)
      ]

  pub along_moved : (distance : ℕ) (r : Result Whole OutOfRange)
      → told_amount r ≡ move_told distance (told_amount s)
      → told_amount r ≡ course_step e axis distance azimuth
  along_moved distance r m = m ∙ rw g (by (ltb azimuth circle))
    where
      by : (b : Bool) → move_told distance (in_range b (sine_along e axis azimuth))
          ≡ in_range (leb distance 20100000 && b) (course e axis distance azimuth)
      by true = refl
      by false = rw (not_second (leb distance 20100000) false refl)

  pub no_sine : (distance : ℕ) (x y : OutOfRange) → s ≡ Err x
      → told_amount (Err y) ≡ course_step e axis distance azimuth
  unfolding told
  no_sine distance x y f =
      along_moved distance (Err y)
      (rw f (refuses (λ (z : Whole). z.v) y _ _ (not_second (leb distance 20100000) false refl)))

  module _ (w : Whole) (f : s ≡ Ok w) where
    pub small : Entries e → nat_abs w.v ≤ 1000000000
    unfolding told
    small entries = rw f at (along_small entries)

    pub sine_told : (distance : ℕ) (v : Whole) → distance ≤ 20100000 → v.v ≡ move distance w.v
        → told_amount (Ok v) ≡ course_step e axis distance azimuth
    unfolding told
    sine_told distance v h m =
        along_moved distance (Ok v)
        (rw f (tells (λ (z : Whole). z.v) _ v _ (both _ _ (le-leb distance 20100000 h) refl) m))

-- ---- by the desk's own table a move is that by the rules' entries
pub own_move : (t : List ℕ) → Table t → (axis : Axis) (distance azimuth : ℕ)
    (r : Result Whole OutOfRange)
    → told_amount r ≡ course_step (entry_in t) axis distance azimuth
    → told_amount r ≡ course_step entry axis distance azimuth
own_move t right axis distance azimuth r g =
    g ∙ ap (λ (e : ℕ → ℤ). course_step e axis distance azimuth) (own_entries t right)
