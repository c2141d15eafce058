-- Amounts modulo the circle: `turn` and `misclosure` are the amounts that their properties name,
-- and no others are; and what the code computes is them.
use mathlib.Core.Path.{◌≡◌, sym, ◌∙◌, ap}
use mathlib.Core.Bool.{Bool, true, false}
use mathlib.Core.List.{[], ◌∷◌}
use Prim.Native.Nat.{ℕ, suc, ◌+◌, ◌-◌, ◌/◌, ◌%◌, ◌≤◌, ◌<◌}
use native.Mathlib.Nat.{mod-lt}
use native.Mathlib.Decide.{dec_le}
use native.Mathlib.Omega.{arith}
use borrow.Author.Tests.{le-leb, lt-leb}
use lib.IntN.{ℤ, pos, negsuc, neg_ℤ, nat_abs, ◌+ℤ◌, ◌-ℤ◌, ◌*ℤ◌}
use lib.Signed.{lt_z}
use Rattle.whole.specs.Order.{◌≤ᶻ◌, ◌<ᶻ◌}
use Rattle.whole.proofs.Diff.{vars, ints, same, eq, under, below, le, lt}
use Rattle.whole.proofs.Machine.{sign_below, sign_above}
use Rattle.minutes.specs.Quadrant.{circle}
use Rattle.steps.specs.Azimuth.{half_circle, Modulo, turn, Misclosure, near_half, misclosure}
use Rattle.steps.specs.Azimuth.{balanced}

-- ---- modulo the circle
pub turn_is : (z : ℤ) → Modulo z (turn z)
unfolding turn
turn_is (pos n) = record
    { low = mod-lt n (omega arith); same = (pos (n / circle), same (search ints) (omega arith)) }
turn_is (negsuc n) =
    record { low = omega arith; same = (negsuc (n / circle), same (search ints) (omega arith)) }

-- amounts of the circle that differ by whole circles are the same
one_residue : (a b : ℕ) (t : ℤ) → a < circle → b < circle → pos a ≡ pos b +ℤ t *ℤ pos circle → a ≡ b
one_residue a b t h k e = let v = vars (t ∷ []) in omega (arith, eq e (search ints))

pub turn_unique : (z : ℤ) (a : ℕ) → Modulo z a → a ≡ turn z
turn_unique z a m =
    let n = turn_is z in
    one_residue a (turn z) (n.same.0 -ℤ m.same.0) m.low n.low
    (moved (pos a) (pos (turn z)) m.same.0 n.same.0 (sym m.same.1 ∙ n.same.1))
  where
    moved : (a b s t : ℤ) → a +ℤ s *ℤ pos circle ≡ b +ℤ t *ℤ pos circle
        → a ≡ b +ℤ (t -ℤ s) *ℤ pos circle
    moved a b s t e = let v = vars (a ∷ b ∷ s ∷ t ∷ []) in
        same (search ints) (omega (arith, eq e (search ints)))

-- a difference of two amounts of the circle, and one with a share taken off, as the code has them
pub turn_less : (a b : ℕ) → b ≤ circle → (a + circle - b) % circle ≡ turn (pos a -ℤ pos b)
turn_less a b h =
    turn_unique (pos a -ℤ pos b) ((a + circle - b) % circle)
    (record {
      low = mod-lt (a + circle - b) (omega arith);
      same = (pos ((a + circle - b) / circle) -ℤ pos 1, same (search ints) (omega arith));
    })

turn_more : (a b : ℕ) → (a + b) % circle ≡ turn (pos a -ℤ neg_ℤ (pos b))
turn_more a b =
    turn_unique (pos a -ℤ neg_ℤ (pos b)) ((a + b) % circle)
    (record {
      low = mod-lt (a + b) (omega arith);
      same = (pos ((a + b) / circle), same (search ints) (omega arith));
    })

-- ---- the misclosure
near_half_lem : (d : ℕ) → d ≤ half_circle → near_half d ≡ pos d
near_half_lem d h = rw (le-leb d half_circle h)

past_half : (d : ℕ) → half_circle < d → near_half d ≡ neg_ℤ (pos (circle - d))
past_half d h = rw (lt-leb d half_circle h)

pub misclosure_is : (carried given : ℕ) → Misclosure carried given (misclosure carried given)
unfolding misclosure
misclosure_is carried given =
    let d = turn (pos carried -ℤ pos given) in
    let m = turn_is (pos carried -ℤ pos given) in
    elim (dec_le d half_circle) [
      | yes h ↦ rw (near_half_lem d h) (near carried given d m.same.0 h m.same.1)
      | no h ↦ rw (past_half d (omega arith))
          (past carried given d m.same.0 (omega arith) m.low m.same.1)
    ]
  where
    near : (c g d : ℕ) (t : ℤ) → d ≤ half_circle → pos c -ℤ pos g ≡ pos d +ℤ t *ℤ pos circle
        → Misclosure c g (pos d)
    near c g d t h e =
        let v = vars (t ∷ []) in
        record {
          same = (neg_ℤ t, same (search ints) (omega (arith, eq e (search ints))));
          above = below (search ints) (omega arith);
          most = under (search ints) (omega arith);
        }

    past : (c g d : ℕ) (t : ℤ) → half_circle < d → d < circle
        → pos c -ℤ pos g ≡ pos d +ℤ t *ℤ pos circle → Misclosure c g (neg_ℤ (pos (circle - d)))
    past c g d t h k e =
        let v = vars (t ∷ []) in
        record {
          same = (neg_ℤ t -ℤ pos 1, same (search ints) (omega (arith, eq e (search ints))));
          above = below (search ints) (omega arith);
          most = under (search ints) (omega arith);
        }

pub misclosure_unique : (carried given : ℕ) (w : ℤ) → Misclosure carried given w
    → w ≡ misclosure carried given
misclosure_unique carried given w m =
    let n = misclosure_is carried given in
    alone w (misclosure carried given) (pos carried -ℤ pos given) m.same.0 n.same.0
    m.same.1 n.same.1 m.above m.most n.above n.most
  where
    alone : (w x z s t : ℤ) → w ≡ z +ℤ s *ℤ pos circle → x ≡ z +ℤ t *ℤ pos circle
        → neg_ℤ (pos half_circle) <ᶻ w → w ≤ᶻ pos half_circle → neg_ℤ (pos half_circle) <ᶻ x
        → x ≤ᶻ pos half_circle → w ≡ x
    alone w x z s t e f a b c d =
        let v = vars (w ∷ x ∷ z ∷ s ∷ t ∷ []) in
        same (search ints) (omega (
          arith,
          eq e (search ints),
          eq f (search ints),
          lt a (search ints),
          le b (search ints),
          lt c (search ints),
          le d (search ints),
        ))

-- as the code has it
module _ (carried given d : ℕ) (v : ℤ) (f : d ≡ (carried + 12960000 - given) % 12960000)
    (h : given < 12960000) where
  left : d ≡ turn (pos carried -ℤ pos given)
  left = f ∙ turn_less carried given (omega arith)

  pub near_side : v ≡ pos d → d ≤ 6480000 → v ≡ misclosure carried given
  unfolding misclosure
  near_side e k = e ∙ sym (near_half_lem d k) ∙ ap near_half left

  pub far_side : (u : ℤ) (n : ℕ) → v ≡ neg_ℤ u → u ≡ pos n → n ≡ 12960000 - d → 6480000 < d
      → v ≡ misclosure carried given
  unfolding misclosure
  far_side u n e i j k = e ∙ ap neg_ℤ (i ∙ ap pos j) ∙ sym (past_half d k) ∙ ap near_half left

-- ---- the balanced azimuth
module _ (azimuth size : ℕ) (share : ℤ) (b : Bool) (f : size ≡ nat_abs share)
    (g : b ≡ lt_z share (pos 0)) where
  pub balanced_below : b ≡ true → (azimuth + size) % 12960000 ≡ balanced azimuth share
  unfolding balanced
  balanced_below t = let s = sign_below share (sym g ∙ t) in
      rw (f, s.1) (turn_more azimuth (suc s.0))

  pub balanced_above : size ≤ 6480000 → b ≡ false
      → (azimuth + 12960000 - size) % 12960000 ≡ balanced azimuth share
  unfolding balanced
  balanced_above h t = let s = sign_above share (sym g ∙ t) in
      rw (f, s.1) (turn_less azimuth s.0 (omega (arith, f ∙ ap nat_abs s.1)))
