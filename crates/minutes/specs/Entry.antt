-- docs/RULES.md, "Sines": the table of the whole minutes.
use Rattle.std.specs.Prelude.{◌≡◌, List, ℕ, ◌*◌, ◌≤◌, length, get_or, ℤ, pos, ◌*ℤ◌}
use Rattle.whole.specs.Nearest.{nearest}
use Rattle.minutes.specs.Exact.{exact_sine, unity, nine_decimals}
use Rattle.minutes.specs.Quadrant.{tenths_in_minute}

-- "the nine-decimal sine of every whole minute .. each the nearest to the exact sine"
unfoldable pub entry : ℕ → ℤ
entry m = nearest (pos nine_decimals *ℤ exact_sine (tenths_in_minute * m)) unity

-- the minute of 90 degrees: "every whole minute from 0 to 90 degrees"
abbrev pub last_minute : ℕ
last_minute = 5400

-- "5,401 entries": that of 0 degrees is one of them
abbrev pub entries : ℕ
entries = 5401

-- "A table holds the nine-decimal sine of every whole minute from 0 to 90 degrees, 5,401 entries"
pub record Table (t : List ℕ) : Type 0 where
  pub count : length t ≡ entries
  pub each : (m : ℕ) → m ≤ last_minute → pos (get_or t m 0) ≡ entry m
