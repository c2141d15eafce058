-- docs/RULES.md, "Doubled area": in units of 0.0001 square foot, clockwise positive.
use Rattle.std.specs.Prelude.{Bool, true, ◌&&◌, List, [], ◌∷◌, ℕ, ◌+◌, ◌*◌, ◌/◌, ◌%◌, leb, eqb}
use Rattle.std.specs.Prelude.{length, get_or, ℤ, pos, nat_abs, ◌-ℤ◌, ◌*ℤ◌}
use Rattle.whole.specs.Sum.{sum_to}
use Rattle.answer.specs.Limit.{most_legs}
use Rattle.answer.specs.Told.{ToldStep, in_range, inside}

-- a list of offsets holds northing, then easting, of each station
abbrev pub northing : List ℤ → ℕ → ℤ
northing offsets i = get_or offsets (2 * i) (pos 0)

abbrev pub easting : List ℤ → ℕ → ℤ
easting offsets i = get_or offsets (2 * i + 1) (pos 0)

abbrev pub stations : List ℤ → ℕ
stations offsets = length offsets / 2

-- N_i E_j - N_j E_i
unfoldable pub cross : List ℤ → ℕ → ℕ → ℤ
cross offsets i j =
    northing offsets i *ℤ easting offsets j -ℤ northing offsets j *ℤ easting offsets i

-- the station after i, round to the first
unfoldable pub next_station : List ℤ → ℕ → ℕ
next_station offsets i = (i + 1) % stations offsets

-- "the sum round stations 0 to n-1 of N_i E_(i+1) - N_(i+1) E_i"
unfoldable pub doubled_to : List ℤ → ℕ → ℤ
doubled_to offsets n = sum_to (λ (i : ℕ). cross offsets i (next_station offsets i)) n

abbrev pub doubled : List ℤ → ℤ
doubled offsets = doubled_to offsets (stations offsets)

-- "offsets of size up to 130,000,000", in hundredths of a foot
abbrev pub most_offset : ℕ
most_offset = 130000000

-- "1 to 64 stations", as many as a loop may have legs, with two offsets each
abbrev pub most_words : ℕ
most_words = 2 * most_legs

-- ---- the step: "1 to 64 stations with offsets of size up to 130,000,000"
unfoldable pub good_offsets : List ℤ → Bool
good_offsets [] = true
good_offsets (z ∷ zs) = leb (nat_abs z) most_offset && good_offsets zs

abbrev pub area_step : List ℤ → ToldStep
area_step offsets =
    in_range
    (inside 2 most_words (length offsets) && eqb (length offsets % 2) 0 && good_offsets offsets)
    (doubled offsets)
