-- Where the bytes of the input are known and no read fails, the promise determines what is read and
-- what is left. docs/EXCEPTIONS.md has what it leaves open.
use Rattle.std.proofs.Common.{◌≡◌, ℕ, ◌<◌, ◌≤◌, List, length, take, drop, arith}
use Rattle.std.proofs.Common.{⊎_elim, Some, None}
use Rattle.std.proofs.lemmas.Bool.{cases_lt}
use Rattle.std.proofs.lemmas.Grind.{common_steps}
use Rattle.std.specs.Io.KnownBytes.{Consumes, IsAtEnd}
use Rattle.std.specs.declared.option.Option.{Option}

-- what is promised of n bytes read from an input that holds xs, where rest is left
abbrev pub Reads : List ℕ → Option (List ℕ) → List ℕ → ℕ → Type 0
Reads xs rest room n =
    (n ≤ length room) × Consumes (Some xs) rest (take n room) × (n < length room → IsAtEnd rest)

-- The first bytes of the input are read, as many as there is room for; those after them are left.
pub read_is : (xs : List ℕ) (rest : Option (List ℕ)) (room : List ℕ) (n : ℕ) → Reads xs rest room n
    → (take n room ≡ take (length room) xs) × (rest ≡ Some (drop (length room) xs))
read_is xs None room n (within, took, end) = absurd took
read_is xs (Some ys) room n (within, took, end) =
    ⊎_elim (λ (less : n < length room). let last = end less in grind (arith, common_steps))
    (λ (full : length room ≤ n). grind (arith, common_steps)) (cases_lt n (length room))

-- `read_full`, of one input into two rooms as long
pub read_single : (xs : List ℕ) (r s : Option (List ℕ)) (room other : List ℕ) (m n : ℕ)
    → length room ≡ length other → Reads xs r room m → Reads xs s other n
    → (m ≡ n) × (take m room ≡ take n other) × (r ≡ s)
read_single xs r s room other m n same first second =
    let one = read_is xs r room m first in
    let two = read_is xs s other n second in
    grind (arith, common_steps)
