-- docs/RULES.md, "Azimuths and legs", along a line, whatever it was read from: the angles turned at
-- its stations, and how many of them share the misclosure W. Legs are numbered by the station that
-- they leave, from 0.
use Rattle.std.specs.Prelude.{ℕ, zero, suc, ◌+◌, List, get_or, ℤ}
use Rattle.steps.specs.Azimuth.{onward, balanced}
use Rattle.steps.specs.Share.{share}

-- how many legs there are, the azimuth of leg 1, the angles in the order of the stations, how many
-- of them share W, and how many of them stand before leg 1
pub record Turns : Type 0 where
  pub legs : ℕ
  pub first : ℕ
  pub angles : List ℕ
  pub shared : ℕ
  pub ahead : ℕ

-- "Each next leg: the azimuth before, plus 180 degrees, plus its angle. The closing azimuth
-- likewise with the closing angle": between leg k and the next stands angle number k + ahead, both
-- counted from 0
unfoldable pub carried : Turns → ℕ → ℕ
carried t zero = t.first
carried t (suc k) = onward (carried t k) (get_or t.angles (k + t.ahead) 0)

-- "the balanced azimuth of leg j is the carried one less that share": the angles up to leg k are
-- those ahead and the k after them
unfoldable pub balanced_at : Turns → ℤ → ℕ → ℕ
balanced_at t w k = balanced (carried t k) (share w (k + t.ahead) t.shared)
