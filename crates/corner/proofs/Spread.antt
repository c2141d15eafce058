-- How far the compass rule spreads what the legs have lost, on any line. At a station with the part
-- S_k of the distance S after it, the errors before count (S - S_k) / S and those after S_k / S, a
-- mean of two sums of which the longer bounds both; the share's own rounding adds half a unit.
use Prim.Native.Nat.{ℕ, zero, suc, ◌+◌, ◌-◌, ◌*◌, ◌≤◌, ◌<◌}
use native.Mathlib.Omega.{arith}
use native.Mathlib.Nat.{mul-le-mul_left, mul-le-mul_right}
use mathlib.Core.Path.{◌≡◌}
use mathlib.Core.List.{[], ◌∷◌}
use lib.IntN.{ℤ, pos, nat_abs, ◌+ℤ◌, ◌-ℤ◌, ◌*ℤ◌}
use Rattle.whole.proofs.Laws.{abs_mul, abs_sub, triangle}
use Rattle.whole.proofs.Ring.{ring, exps}
use Rattle.whole.proofs.Rounding.{nearest_is}
use Rattle.steps.specs.Share.{share}
use Rattle.desk.specs.Line.{Line, run, run_all, preliminary, closure, share_at, adjusted}
use Rattle.desk.proofs.Compass.{run_up}
use Rattle.corner.specs.Unrounded.{unrounded}

-- ---- sizes taken w times: of a sum, of a multiple, and of a mean by the weights r and t
sized_sum : (w : ℕ) (x y : ℤ) → w * nat_abs (x +ℤ y) ≤ w * nat_abs x + w * nat_abs y
sized_sum w x y = omega (arith, mul-le-mul_left w (triangle x y))

sized_times : (w r : ℕ) (x : ℤ) → w * nat_abs (pos r *ℤ x) ≡ r * (w * nat_abs x)
sized_times w r x = rw (abs_mul (pos r) x) (omega arith)

convex : (w : ℕ) (x y : ℤ) (r t b : ℕ) → w * nat_abs x ≤ b → w * nat_abs y ≤ b
    → w * nat_abs (pos r *ℤ x +ℤ pos t *ℤ y) ≤ (r + t) * b
convex w x y r t b h k =
    omega (
      arith,
      sized_sum w (pos r *ℤ x) (pos t *ℤ y),
      sized_times w r x,
      sized_times w t y,
      mul-le-mul_left r h,
      mul-le-mul_left t k,
    )

-- a sequence that moves by at most b a step, over m steps from j on
drift : (w : ℕ) (f : ℕ → ℤ) (b n j m : ℕ) → ((i : ℕ) → i < n → w * nat_abs (f (suc i) -ℤ f i) ≤ b)
    → j + m ≤ n → w * nat_abs (f (j + m) -ℤ f j) ≤ m * b
drift w f b n j zero near h = let z : j + 0 ≡ j = omega arith in
    rw (z, ring (f j ∷ []) {x = f j -ℤ f j} {y = pos 0} (λ v. search exps) tt) (omega arith)
drift w f b n j (suc m) near h =
    let z : j + suc m ≡ suc (j + m) = omega arith in
    let e : f (suc (j + m)) -ℤ f j ≡ (f (suc (j + m)) -ℤ f (j + m)) +ℤ (f (j + m) -ℤ f j) =
    ring (f (suc (j + m)) ∷ f (j + m) ∷ f j ∷ []) (λ v. search exps) tt in
    rw (z, e) (omega (
      arith,
      sized_sum w (f (suc (j + m)) -ℤ f (j + m)) (f (j + m) -ℤ f j),
      near (j + m) (omega arith),
      drift w f b n j m near (omega arith),
    ))

-- ---- p and q are the preliminary places at a station and at the end, p' and q' the exact ones, c
-- the fixed end, s the share, t and r what is run before and after
parts : (a p p' q q' c s : ℤ) (u t r : ℕ)
    → pos (u * (t + r)) *ℤ (p -ℤ s) -ℤ (pos (t + r) *ℤ p' -ℤ (q' -ℤ pos u *ℤ c) *ℤ pos t)
    ≡ pos u *ℤ ((q -ℤ c) *ℤ pos t -ℤ s *ℤ pos (t + r))
    +ℤ (pos r *ℤ ((pos u *ℤ a -ℤ pos u *ℤ a) -ℤ (p' -ℤ pos u *ℤ p)) +ℤ pos t *ℤ
    ((q' -ℤ pos u *ℤ q) -ℤ (p' -ℤ pos u *ℤ p)))
parts a p p' q q' c s u t r =
    ring (a ∷ p ∷ p' ∷ q ∷ q' ∷ c ∷ s ∷ pos u ∷ pos t ∷ pos r ∷ []) (λ v. search exps depth 20) tt

-- the share's own rounding, and the mean of what was lost before and after
together : (g c : ℕ) (x y z : ℤ) (u t r m : ℕ) → 2 * nat_abs z ≤ t + r
    → 2 * g * nat_abs x ≤ m * (c * u) → 2 * g * nat_abs y ≤ m * (c * u)
    → 2 * g * nat_abs (pos u *ℤ z +ℤ (pos r *ℤ x +ℤ pos t *ℤ y)) ≤ (c * m + g) * (u * (t + r))
together g c x y z u t r m h i j =
    omega (
      arith,
      sized_sum (2 * g) (pos u *ℤ z) (pos r *ℤ x +ℤ pos t *ℤ y),
      sized_times (2 * g) u z,
      mul-le-mul_left (g * u) h,
      convex (2 * g) x y r t (m * (c * u)) i j,
    )

spread : (g c : ℕ) (a p p' q q' z s : ℤ) (u t r w m : ℕ) → w ≡ t + r
    → 2 * nat_abs ((q -ℤ z) *ℤ pos t -ℤ s *ℤ pos w) ≤ w
    → 2 * g * nat_abs ((pos u *ℤ a -ℤ pos u *ℤ a) -ℤ (p' -ℤ pos u *ℤ p)) ≤ m * (c * u)
    → 2 * g * nat_abs ((q' -ℤ pos u *ℤ q) -ℤ (p' -ℤ pos u *ℤ p)) ≤ m * (c * u)
    → 2 * g * nat_abs (pos (u * w) *ℤ (p -ℤ s) -ℤ (pos w *ℤ p' -ℤ (q' -ℤ pos u *ℤ z) *ℤ pos t)) ≤
    (c * m + g) * (u * w)
spread g c a p p' q q' z s u t r w m e h i j =
    rw (e, parts a p p' q q' z s u t r)
    (together g c ((pos u *ℤ a -ℤ pos u *ℤ a) -ℤ (p' -ℤ pos u *ℤ p))
    ((q' -ℤ pos u *ℤ q) -ℤ (p' -ℤ pos u *ℤ p)) ((q -ℤ z) *ℤ pos t -ℤ s *ℤ pos (t + r)) u t r m
    (rw e at h) i j)

-- ---- a line l, and one of the same legs in parts of which u make one, whose moves differ from
-- those of l by at most c / 2g
module _ (g c u : ℕ) (l : Line) (exact : ℕ → ℤ) (near : (i : ℕ) → i < l.legs
    → 2 * g * nat_abs (exact i -ℤ pos u *ℤ l.move i) ≤ c * u) where
  abbrev finer : Line
  finer = record {
    from = pos u *ℤ l.from;
    to = pos u *ℤ l.to;
    legs = l.legs;
    move = exact;
    long = l.long;
  }

  -- what the roundings of the legs before station k have moved its preliminary place
  abbrev lost : ℕ → ℤ
  lost k = preliminary finer k -ℤ pos u *ℤ preliminary l k

  lost_next : (k : ℕ) → lost (suc k) -ℤ lost k ≡ exact k -ℤ pos u *ℤ l.move k
  unfolding preliminary
  lost_next k = ring (preliminary finer k ∷ preliminary l k ∷ exact k ∷ l.move k ∷ pos u ∷ [])
      (λ v. search exps depth 20) tt

  lost_over : (j m : ℕ) → j + m ≤ l.legs → 2 * g * nat_abs (lost (j + m) -ℤ lost j) ≤ m * (c * u)
  lost_over j m h = drift (2 * g) lost (c * u) l.legs j m
      (λ i low. rw (lost_next i) (near i low)) h

  before : (k m : ℕ) → k ≤ l.legs → k ≤ m → 2 * g * nat_abs (lost 0 -ℤ lost k) ≤ m * (c * u)
  before k m h more =
      let z : 0 + k ≡ k = omega arith in
      rw (abs_sub (lost 0) (lost k))
      (omega (arith, rw z at (lost_over 0 k (omega arith)), mul-le-mul_right (c * u) more))

  after : (k m : ℕ) → k ≤ l.legs → l.legs - k ≤ m
      → 2 * g * nat_abs (lost l.legs -ℤ lost k) ≤ m * (c * u)
  after k m h more =
      let z : k + (l.legs - k) ≡ l.legs = omega arith in
      omega (
        arith,
        rw z at (lost_over k (l.legs - k) (omega arith)),
        mul-le-mul_right (c * u) more,
      )

  -- m is at least the number of legs before the station, and of those after it
  pub stands : (k m : ℕ) → k ≤ l.legs → k ≤ m → l.legs - k ≤ m → 0 < run_all l
      → 2 * g * nat_abs (pos (u * run_all l) *ℤ adjusted l k -ℤ unrounded finer k) ≤ (c * m + g) *
      (u * run_all l)
  unfolding preliminary adjusted unrounded share
  stands k m h more less far =
      spread g c l.from (preliminary l k) (preliminary finer k) (preliminary l l.legs)
      (preliminary finer l.legs) l.to (share_at l k) u
      (run l.long k) (run_all l - run l.long k) (run_all l) m
      (omega (arith, run_up l.long k l.legs h))
      (nearest_is (closure l *ℤ pos (run l.long k)) (run_all l) far).close (before k m h more)
      (after k m h less)
