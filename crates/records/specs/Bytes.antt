-- docs/RULES.md, "The tape": numbers of two and four bytes, "unsigned, high byte first, except the
-- elevation, which is two's complement".
use Rattle.std.specs.Prelude.{cond, List, [], ◌∷◌, ℕ, suc, ◌+◌, ◌-◌, ◌*◌, ◌/◌, ◌%◌, ltb, get_or, ℤ}
use Rattle.std.specs.Prelude.{pos, negsuc}

pub data Width : Type 0 where
  two four : Width

abbrev pub byte_count : Width → ℕ
byte_count two = 2
byte_count four = 4

-- the number that the bytes from place k of l on spell
unfoldable pub num : Width → List ℕ → ℕ → ℕ
num two l k = get_or l k 0 * 256 + get_or l (suc k) 0
num four l k =
    get_or l k 0 * 16777216 + get_or l (suc k) 0 * 65536 + get_or l (suc (suc k)) 0 * 256
    + get_or l (suc (suc (suc k))) 0

-- the bytes that spell a number
unfoldable pub bytes : Width → ℕ → List ℕ
bytes two n = (n / 256 % 256) ∷ (n % 256) ∷ []
bytes four n = (n / 16777216 % 256) ∷ (n / 65536 % 256) ∷ (n / 256 % 256) ∷ (n % 256) ∷ []

-- how the number is meant
pub data Coding : Type 0 where
  unsigned twos_complement : Coding

-- how many numbers a width has
abbrev pub capacity : Width → ℕ
capacity two = 65536
capacity four = 4294967296

-- what a number read is meant to be: in two's complement the upper half counts down from -1
unfoldable pub meant : Coding → Width → ℕ → ℤ
meant unsigned w n = pos n
meant twos_complement w n = cond (ltb n (capacity w / 2)) (pos n) (negsuc (capacity w - 1 - n))

-- the number that is written for one that is meant
unfoldable pub written : Width → ℤ → ℕ
written w (pos n) = n
written w (negsuc n) = capacity w - 1 - n
