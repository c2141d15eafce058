-- docs/RULES.md, "Closure and compass rule", of one coordinate by itself, northing or easting. It
-- knows nothing of azimuths, sines or tapes. Legs are numbered by the station that they leave, from
-- 0, so station k is reached after k legs.
use Rattle.std.specs.Prelude.{ℕ, zero, suc, ◌+◌, ℤ, ◌+ℤ◌, ◌-ℤ◌}
use Rattle.steps.specs.Share.{share}

-- the fixed first and last coordinates, the number of legs, the latitude or departure of each, and
-- its grid distance
pub record Line : Type 0 where
  pub from : ℤ
  pub to : ℤ
  pub legs : ℕ
  pub move : ℕ → ℤ
  pub long : ℕ → ℕ

-- S_k, "the distance run so far", and S, "the sum of grid distances"
unfoldable pub run : (ℕ → ℕ) → ℕ → ℕ
run long zero = 0
run long (suc k) = run long k + long k

abbrev pub run_all : Line → ℕ
run_all l = run l.long l.legs

-- "Preliminary coordinates add latitudes and departures to the start"
unfoldable pub preliminary : Line → ℕ → ℤ
preliminary l zero = l.from
preliminary l (suc k) = preliminary l k +ℤ l.move k

-- "Closure in each coordinate: preliminary end less fixed end"
abbrev pub closure : Line → ℤ
closure l = preliminary l l.legs -ℤ l.to

-- "Share at station k: nearest to closure x S_k / S"
abbrev pub share_at : Line → ℕ → ℤ
share_at l k = share (closure l) (run l.long k) (run_all l)

-- "adjusted = preliminary less share"
unfoldable pub adjusted : Line → ℕ → ℤ
adjusted l k = preliminary l k -ℤ share_at l k
