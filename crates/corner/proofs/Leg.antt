-- A leg's latitude or departure stands within 0.55 hundredths of the exact one: its own rounding
-- takes at most half a hundredth, and the sine's units on the longest grid distance take the rest.
use Prim.Native.Nat.{ℕ, ◌+◌, ◌*◌, ◌≤◌, ◌<◌}
use native.Mathlib.Omega.{arith}
use native.Mathlib.Nat.{mul-le-mul_left, mul-le-mul_right, le_of_mul-le-mul_left}
use mathlib.Core.Path.{◌≡◌, ap}
use mathlib.Core.List.{[], ◌∷◌}
use lib.IntN.{ℤ, pos, neg_ℤ, nat_abs, ◌+ℤ◌, ◌-ℤ◌, ◌*ℤ◌}
use Rattle.whole.proofs.Laws.{abs_mul, triangle}
use Rattle.whole.proofs.Ring.{ring, exps}
use Rattle.whole.proofs.Rounding.{nearest_is}
use Rattle.minutes.specs.Entry.{entry}
use Rattle.minutes.specs.Exact.{unity, Within}
use Rattle.minutes.specs.Quadrant.{circle}
use Rattle.sines.specs.Sine.{units}
use Rattle.sines.proofs.Bound.{unity_positive, sine_near, cosine_near}
use Rattle.steps.specs.Course.{Axis, north, east, move, sine_along, course}
use Rattle.corner.specs.Unrounded.{exact_along, fine, exact_move, per_leg}

-- the longest grid distance that a tape can have
abbrev pub longest : ℕ
longest = 20040020

-- half a hundredth for the rounding, and for the sine its units on the longest distance: 0.55 is
-- enough
enough : 100 * (5000000000 + longest * units) ≤ per_leg * 10000000000
enough = omega arith

sine_along_lem : (axis : Axis) (azimuth : ℕ) → azimuth < circle
    → Within units (sine_along entry axis azimuth) (exact_along axis azimuth)
unfolding sine_along exact_along
sine_along_lem north azimuth h = cosine_near azimuth
sine_along_lem east azimuth h = sine_near azimuth h

-- m is the nearest to a distance d times a sine s, over 10 ^ 10; x is the exact sine over w, and s
-- within u units of it
near_leg : (u c g w d : ℕ) (m s x : ℤ) → g * (5000000000 + longest * u) ≤ c * 10000000000
    → d ≤ longest
    → 2 * nat_abs (neg_ℤ (s *ℤ pos d) -ℤ m *ℤ pos 10000000000) ≤ 10000000000
    → nat_abs (s *ℤ pos w -ℤ pos 1000000000 *ℤ x) ≤ u * w
    → g * nat_abs (neg_ℤ (x *ℤ pos d) -ℤ pos (10 * w) *ℤ m) ≤ c * (10 * w)
near_leg u c g w d m s x plenty most h i =
    let r = neg_ℤ (s *ℤ pos d) -ℤ m *ℤ pos 10000000000 in
    let t = s *ℤ pos w -ℤ pos 1000000000 *ℤ x in
    let y = neg_ℤ (x *ℤ pos d) -ℤ pos (10 * w) *ℤ m in
    let e : pos 1000000000 *ℤ y ≡ pos w *ℤ r +ℤ pos d *ℤ t =
    ring (pos d ∷ pos w ∷ m ∷ s ∷ x ∷ []) (λ v. search exps depth 20) tt in
    let n : 1000000000 * nat_abs y ≤ (5000000000 + longest * u) * w
    = omega (
      arith,
      ap nat_abs e,
      abs_mul (pos 1000000000) y,
      triangle (pos w *ℤ r) (pos d *ℤ t),
      abs_mul (pos w) r,
      abs_mul (pos d) t,
      mul-le-mul_left w h,
      mul-le-mul_left d i,
      mul-le-mul_right (u * w) most,
    ) in
    let b : 1000000000 * (g * nat_abs y) ≤ 1000000000 * (c * (10 * w)) =
    omega (arith, mul-le-mul_left g n, mul-le-mul_right w plenty) in
    le_of_mul-le-mul_left b (omega arith)

pub fine_positive : 0 < fine
unfolding fine
fine_positive = omega (arith, unity_positive)

pub leg_near : (axis : Axis) (distance azimuth : ℕ) → distance ≤ longest → azimuth < circle
    → 100 * nat_abs (exact_move axis distance azimuth -ℤ pos fine *ℤ course entry axis distance
    azimuth) ≤ per_leg * fine
unfolding exact_move fine move
leg_near axis distance azimuth most turned =
    let s = sine_along entry axis azimuth in
    near_leg units per_leg 100 unity distance (course entry axis distance azimuth) s
    (exact_along axis azimuth) enough most
    (nearest_is (neg_ℤ (s *ℤ pos distance)) 10000000000 (omega arith)).close
    (sine_along_lem axis azimuth turned)
