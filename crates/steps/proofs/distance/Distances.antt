-- The sea level factor by the sign of the elevation, which is how the code goes, and the combined
-- factor as the property of the rules has it.
use mathlib.Core.Path.{◌≡◌, sym, ◌∙◌, ap}
use mathlib.Core.Bool.{Bool, true, false, ◌&&◌}
use Prim.Native.Nat.{ℕ, suc, ◌+◌, ◌-◌, ◌*◌, ◌≤◌, ◌<◌}
use native.Mathlib.Omega.{arith}
use borrow.Author.Tests.{le-leb, lt-leb}
use lib.IntN.{ℤ, pos, negsuc, neg_ℤ, nat_abs, ◌+ℤ◌}
use lib.Signed.{lt_z, le_z}
use Rattle.whole.specs.Nearest.{Nearest, nearest, half_up}
use Rattle.whole.proofs.Diff.{ints, same}
use Rattle.whole.proofs.Machine.{sign_below, sign_above, range_below, range_above}
use Rattle.whole.proofs.Rounding.{nearest_is, nearest_unique}
use Rattle.steps.specs.Distance.{sea_level, combine}

-- -1,000..20,000
abbrev good : ℤ → Bool
good e = le_z (neg_ℤ (pos 1000)) e && le_z e (pos 20000)

module _ (e : ℤ) (feet : ℕ) (below : Bool) (f : feet ≡ nat_abs e) (b : below ≡ lt_z e (pos 0)) where
  module _ (t : below ≡ true) where
    abbrev s : (n : ℕ) × (e ≡ negsuc n)
    s = sign_below e (sym b ∙ t)

    pub below_good : feet ≤ 1000 → good e ≡ true
    below_good h = sym (range_below e feet 1000 20000 f (sym b ∙ t)) ∙ le-leb feet 1000 h

    pub below_not : 1000 < feet → good e ≡ false
    below_not h = sym (range_below e feet 1000 20000 f (sym b ∙ t)) ∙ lt-leb feet 1000 h

    pub sea_below : (r : ℕ) → r ≡ half_up 209060000000000 (20906000 - feet) → feet ≤ 1000
        → r ≡ sea_level e
    unfolding sea_level
    sea_below r i h = i ∙ ap (half_up 209060000000000)
        (rw s.1 (ap nat_abs (less s.0 (f ∙ ap nat_abs s.1))))
      where
        less : (n : ℕ) → feet ≡ suc n → pos (20906000 - feet) ≡ pos 20906000 +ℤ negsuc n
        less n g = same (search ints) (omega arith)

  module _ (t : below ≡ false) where
    abbrev u : (n : ℕ) × (e ≡ pos n)
    u = sign_above e (sym b ∙ t)

    pub above_good : feet ≤ 20000 → good e ≡ true
    above_good h = sym (range_above e feet 1000 20000 f (sym b ∙ t)) ∙ le-leb feet 20000 h

    pub above_not : 20000 < feet → good e ≡ false
    above_not h = sym (range_above e feet 1000 20000 f (sym b ∙ t)) ∙ lt-leb feet 20000 h

    pub sea_above : (r : ℕ) → r ≡ half_up 209060000000000 (20906000 + feet) → r ≡ sea_level e
    unfolding sea_level
    sea_above r i = i ∙ ap (half_up 209060000000000)
        (rw u.1 (omega (arith, f ∙ ap nat_abs u.1)))

-- ---- the combined factor is the nearest ten-millionth of the product, and nothing else is
module _ (sea scale : ℕ) where
  pub combine_is : Nearest (pos (sea * scale)) 10000000 (pos (combine sea scale))
  unfolding combine nearest
  combine_is = nearest_is (pos (sea * scale)) 10000000 (omega arith)

  pub combine_unique : (q : ℤ) → Nearest (pos (sea * scale)) 10000000 q
      → q ≡ pos (combine sea scale)
  unfolding combine nearest
  combine_unique q = nearest_unique (pos (sea * scale)) 10000000 q (omega arith)
