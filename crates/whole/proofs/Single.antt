-- Any two outcomes that a promise of this crate allows coincide, wherever its requirement is met:
-- a promise gives the value of the outcome, and the bound beside it follows from that value.
use mathlib.Core.Path.{◌≡◌, sym, ◌∙◌, ap}
use mathlib.Core.Bool.{Bool}
use Prim.Native.Nat.{ℕ}
use lib.IntN.{ℤ, nat_abs}
use lib.Signed.{lt_z}
use Rattle.whole.specs.declared.Whole.{Whole}
use Rattle.whole.specs.Nearest.{half_up}

-- `Whole::of_size`, `Whole::opposite`, `Whole::plus`, `Whole::minus` and `Whole::times`: an amount
-- is known by its number
pub whole_single : (z : ℤ) (x y : Whole) → x.v ≡ z → y.v ≡ z → x ≡ y
whole_single z x y e f = ap (λ (v : ℤ). record { v = v }) (e ∙ sym f)

-- `Whole::size`
pub size_single : (z : ℤ) (x y : ℕ) → x ≡ nat_abs z → y ≡ nat_abs z → x ≡ y
size_single z x y e f = e ∙ sym f

-- `Whole::less`, and with w zero `Whole::below_zero`
pub less_single : (z w : ℤ) (x y : Bool) → x ≡ lt_z z w → y ≡ lt_z z w → x ≡ y
less_single z w x y e f = e ∙ sym f

-- `half_up`
pub half_up_single : (n d x y : ℕ) → x ≡ half_up n d → y ≡ half_up n d → x ≡ y
half_up_single n d x y e f = e ∙ sym f
