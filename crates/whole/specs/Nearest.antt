-- docs/RULES.md, "Units and nearest": "nearest" means "the nearest whole unit, a half going away
-- from zero, for negative amounts as for positive". `Nearest z d q` is that sentence of the
-- fraction z / d and the whole number q; `nearest z d` is the number it names. For d above zero the
-- two agree: `nearest_is` and `nearest_unique` of proofs/Rounding.antt.
use Rattle.std.specs.Prelude.{◌≡◌, ℕ, suc, ◌+◌, ◌*◌, ◌/◌, ◌≤◌, ℤ, pos, negsuc, neg_ℤ, nat_abs, ◌-ℤ◌}
use Rattle.std.specs.Prelude.{◌*ℤ◌}

pub record Nearest (z : ℤ) (d : ℕ) (q : ℤ) : Type 0 where
  -- q is at most half a unit off
  pub close : 2 * nat_abs (z -ℤ q *ℤ pos d) ≤ d
  -- and where it is just half a unit off, it stands on the side away from zero
  pub away : 2 * nat_abs (z -ℤ q *ℤ pos d) ≡ d → nat_abs z ≤ nat_abs q * d

-- n / d for an amount that is not negative: a half goes up
abbrev pub half_up : ℕ → ℕ → ℕ
half_up n d = (2 * n + d) / (2 * d)

-- z / d: a negative amount is rounded as its size, and the sign put back
unfoldable pub nearest : ℤ → ℕ → ℤ
nearest (pos n) d = pos (half_up n d)
nearest (negsuc n) d = neg_ℤ (pos (half_up (suc n) d))
