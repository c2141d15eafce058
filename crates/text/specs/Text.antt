-- docs/RULES.md, "The sheet, and one printed whole": numbers as the sheet prints them, in bytes.
-- Nothing is padded.
use Rattle.std.specs.Prelude.{ℕ, zero, suc, ◌+◌, ◌/◌, ◌%◌, ◌^◌, cond, List, [], ◌∷◌, ◌++◌, ltb, ℤ}
use Rattle.std.specs.Prelude.{pos, nat_abs}
use Prim.Native.String.{String}
use Prim.Native.String as string
use Prim.Native.Char.{code}
use Rattle.std.specs.Int.Signed.{lt_z}

-- a text as its bytes
abbrev pub ascii : String → List ℕ
ascii string.[] = []
ascii (string.◌∷◌ c s) = code c ∷ ascii s

-- the last k decimal digits of n
unfoldable pub digits : ℕ → ℕ → List ℕ
digits zero n = []
digits (suc k) n = digits k (n / 10) ++ ((48 + n % 10) ∷ [])

-- how many digits n has, counted in at most the given number of steps; n steps are always enough
unfoldable pub digit_count_in : ℕ → ℕ → ℕ
digit_count_in zero n = 1
digit_count_in (suc f) n = cond (ltb n 10) 1 (1 + digit_count_in f (n / 10))

abbrev pub digit_count : ℕ → ℕ
digit_count n = digit_count_in n n

unfoldable pub decimal : ℕ → List ℕ
decimal n = digits (digit_count n) n

-- n units of which 10 ^ d make a whole one: the whole ones, the point, and d decimals
unfoldable pub pointed : ℕ → ℕ → List ℕ
pointed d n = decimal (n / 10 ^ d) ++ ascii "." ++ digits d n

-- the sign of an amount, with what stands before one that is not negative
unfoldable pub sign : List ℕ → ℤ → List ℕ
sign plus z = cond (lt_z z (pos 0)) (ascii "-") plus

unfoldable pub amount : List ℕ → ℕ → ℤ → List ℕ
amount plus d z = sign plus z ++ pointed d (nat_abs z)

-- "always signed (zero is +)"
abbrev pub signed : ℕ → ℤ → List ℕ
signed d z = amount (ascii "+") d z

-- "a minus sign only when negative"
abbrev pub plain : ℕ → ℤ → List ℕ
plain d z = amount [] d z
