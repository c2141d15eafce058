-- docs/RULES.md, "The tape": the limits that the tape's fields and the arithmetic steps share, each
-- by one name. src/limit.rt has the same names. The circle is in the specs of `minutes` (Quadrant).
use Rattle.std.specs.Prelude.{ℕ}

-- "1 to 64 legs"
abbrev pub most_legs : ℕ
most_legs = 64

-- "factor (4) 9,990,000..10,010,000", in ten-millionths: the least
abbrev pub least_factor : ℕ
least_factor = 9990000

-- "factor (4) 9,990,000..10,010,000", in ten-millionths: the most
abbrev pub most_factor : ℕ
most_factor = 10010000

-- "distance (4) 1,000..20,000,000", in thousandths of a foot: the least
abbrev pub least_distance : ℕ
least_distance = 1000

-- "distance (4) 1,000..20,000,000", in thousandths of a foot: the most
abbrev pub most_distance : ℕ
most_distance = 20000000

-- "mean elevation in feet (2) -1,000..20,000": the most feet below sea level
abbrev pub lowest : ℕ
lowest = 1000

-- "mean elevation in feet (2) -1,000..20,000": the most feet above sea level
abbrev pub highest : ℕ
highest = 20000

-- "northing (4), easting (4), each 0..1,000,000,000", in hundredths of a foot
abbrev pub most_coordinate : ℕ
most_coordinate = 1000000000
