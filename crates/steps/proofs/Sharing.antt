-- The laws of the share rule. Nothing is shared at no part and all of it at the whole, shares grow
-- with the part, and so the shares of successive parts add up to the total: the customer's
-- hundredth.
use mathlib.Core.Path.{◌≡◌, sym, ◌∙◌, ap}
use mathlib.Core.Bool.{Bool, true, false}
use Prim.Native.Nat.{ℕ, suc, ◌*◌, ◌≤◌, ◌<◌}
use native.Mathlib.Nat.{mul_comm, mul-le-mul_left}
use native.Mathlib.Omega.{arith}
use lib.IntN.{ℤ, pos, neg_ℤ, nat_abs, ◌-ℤ◌, ◌*ℤ◌, *ℤ-zero, +ℤ_idr}
use lib.Signed.{lt_z}
use Rattle.whole.specs.Order.{◌≤ᶻ◌}
use Rattle.whole.specs.Nearest.{nearest, half_up}
use Rattle.whole.specs.Sum.{sum_to}
use Rattle.whole.proofs.Diff.{→le}
use Rattle.whole.proofs.Laws.{abs_mul, mul_mono}
use Rattle.whole.proofs.Machine.{sign_below, sign_above}
use Rattle.whole.proofs.Rounding.{nearest_zero, nearest_multiple, nearest_mono, nearest_most}
use Rattle.whole.proofs.Rounding.{nearest_neg}
use Rattle.whole.proofs.Sums.{telescope}
use Rattle.steps.specs.Share.{share}

module _ (total : ℤ) (whole : ℕ) (some : 0 < whole) where
  -- nothing at the start
  pub share_none : share total 0 whole ≡ pos 0
  unfolding share
  share_none = rw (*ℤ-zero total) (nearest_zero whole some)

  -- all of it at the end
  pub share_all : share total whole whole ≡ total
  unfolding share
  share_all = nearest_multiple total whole some

  -- a larger part of a total that is not negative has a share at least as large
  pub share_grows : (p q : ℕ) → p ≤ q → pos 0 ≤ᶻ total → share total p whole ≤ᶻ share total q whole
  unfolding share
  share_grows p q h pos_total =
      nearest_mono whole some (mul_mono {a = pos p} {b = pos q} total pos_total (→le (omega arith)))

  -- and of any total a share is never more than the total
  pub share_most : (p : ℕ) → p ≤ whole → nat_abs (share total p whole) ≤ nat_abs total
  unfolding share
  share_most p h = nearest_most (total *ℤ pos p) whole (nat_abs total) some
      (rw (abs_mul total (pos p)) (mul-le-mul_left (nat_abs total) h))

  -- The hundredth. Run along the parts from nothing to the whole: what each step is given, the
  -- share at its end less that at its start, adds up to the total, whatever the parts are.
  pub shares_add_up : (part : ℕ → ℕ) (n : ℕ) → part 0 ≡ 0 → part n ≡ whole
      → sum_to (λ (k : ℕ). share total (part (suc k)) whole -ℤ share total (part k) whole) n ≡ total
  shares_add_up part n first last =
      telescope (λ (k : ℕ). share total (part k) whole) n ∙ rw (first, last, share_none, share_all)
      (+ℤ_idr total)

-- ---- as the code computes it: m is the share of the total's size n, and b says whether the total
-- is below zero
module _ (total q : ℤ) (b : Bool) (part whole m n : ℕ) (e : q ≡ pos m)
    (f : m ≡ half_up (part * n) whole) (g : n ≡ nat_abs total) (h : b ≡ lt_z total (pos 0)) where
  pub share_above : b ≡ false → q ≡ share total part whole
  unfolding share nearest
  share_above i = let s = sign_above total (sym h ∙ i) in e ∙ rw (f, g, s.1, mul_comm part s.0)

  pub share_below : (r : ℤ) → 0 < whole → r ≡ neg_ℤ q → b ≡ true → r ≡ share total part whole
  unfolding share nearest
  share_below r some j i =
      let s = sign_below total (sym h ∙ i) in
      j ∙ ap neg_ℤ e ∙ rw (f, g, s.1, mul_comm part (suc s.0))
      (sym (nearest_neg (pos (suc s.0 * part)) whole some))
