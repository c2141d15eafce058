-- docs/RULES.md, "Sines": the exact sine, as an exact fraction. Each is a numerator over one common
-- denominator, `unity`, which is the sine of 90 degrees.
use Rattle.std.specs.Prelude.{Bool, true, false, List, [], ◌∷◌, ℕ, zero, suc, ◌-◌, ◌*◌, ◌/◌, ◌^◌}
use Rattle.std.specs.Prelude.{◌≤◌, leb, ℤ, pos, nat_abs, ◌-ℤ◌, ◌*ℤ◌}
use Rattle.minutes.specs.Quadrant.{half_circle, quarter_circle, around, quarter_ahead}

-- "Radians use pi = 3.14159265358979323846": `pi` over 10 ^ 20
unfoldable pub pi : ℕ
pi = 314159265358979323846

-- 180 degrees are 6,480,000 tenths, so a tenths are a * pi / straight radians
unfoldable pub straight : ℕ
straight = half_circle * 10 ^ 20

unfoldable pub factorial : ℕ → ℕ
factorial zero = 1
factorial (suc n) = suc n * factorial n

unfoldable pub unity : ℕ
unity = factorial 20 * straight ^ 20

-- x ^ k / k! for x = a * pi / straight is weight k * a ^ k, over `unity`
unfoldable pub weight : ℕ → ℕ
weight k = factorial 20 / factorial k * pi ^ k * straight ^ (20 - k)

-- the power series with the powers listed, the first term added, the second taken away, and so on
unfoldable pub series : List ℕ → ℕ → ℤ
series [] a = pos 0
series (k ∷ ks) a = pos (weight k * a ^ k) -ℤ series ks a

-- "through the 19th power"
abbrev pub sine_powers : List ℕ
sine_powers = 1 ∷ 3 ∷ 5 ∷ 7 ∷ 9 ∷ 11 ∷ 13 ∷ 15 ∷ 17 ∷ 19 ∷ []

-- "the cosine series .. through the 20th"
abbrev pub cosine_powers : List ℕ
cosine_powers = 0 ∷ 2 ∷ 4 ∷ 6 ∷ 8 ∷ 10 ∷ 12 ∷ 14 ∷ 16 ∷ 18 ∷ 20 ∷ []

-- 45 degrees, half of the first quadrant
abbrev pub octant : ℕ
octant = 1620000

-- "up to and including 45 degrees" by the sine's series; "above 45 degrees, up to 90," by the
-- cosine's of the complement
unfoldable pub by_series : Bool → ℕ → ℤ
by_series true a = series sine_powers a
by_series false a = series cosine_powers (quarter_circle - a)

unfoldable pub exact_quarter : ℕ → ℤ
exact_quarter a = by_series (leb a octant) a

unfoldable pub exact_sine : ℕ → ℤ
exact_sine a = around exact_quarter a

abbrev pub exact_cosine : ℕ → ℤ
exact_cosine a = exact_sine (quarter_ahead a)

-- 1 in units of the ninth decimal: "the nine-decimal sine" of 90 degrees, and no sine is above it
abbrev pub nine_decimals : ℕ
nine_decimals = 1000000000

-- v units of the ninth decimal are within u of them of the exact x / unity
abbrev pub Within : ℕ → ℤ → ℤ → Type 0
Within u v x = nat_abs (v *ℤ pos unity -ℤ pos nine_decimals *ℤ x) ≤ u * unity
