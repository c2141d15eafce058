-- `put_pair` meets its contract: the table has the digits of each number below 100, those of the
-- next after them.
use Prim.Native.Nat.{ℕ, zero, suc, ◌+◌, ◌-◌, ◌*◌, ◌<◌}
use native.Mathlib.Omega.{arith}
use native.Mathlib.Decide.{dec_lt}
use mathlib.Core.Path.{◌≡◌, refl, ◌∙◌}
use mathlib.Core.List.{List, [], ◌++◌}
use lib.ListN.{length, get_or, length-append}
use lib.ListN.{get_or-append}
use Rattle.std.proofs.lemmas.List.{get_or-append_right}
use Rattle.text.specs.declared.pairs.TheConstants.{PAIRS}
use Rattle.text.specs.Text.{digits}
use Rattle.text.proofs.Digits.{digits_length}
use Rattle.text.proofs.pairs.put_pair.Goals as goal

-- the digits of the numbers below n
pairs_below : ℕ → List ℕ
pairs_below zero = []
pairs_below (suc n) = pairs_below n ++ digits 2 n

table_is : PAIRS ≡ pairs_below 100
unfolding digits pairs_below
table_is = refl

pairs_length : (n : ℕ) → length (pairs_below n) ≡ 2 * n
unfolding pairs_below
pairs_length zero = refl
pairs_length (suc n) =
    omega (arith, length-append (pairs_below n) (digits 2 n), pairs_length n, digits_length 2 n)

byte_in : (n p i : ℕ) → p < n → i < 2
    → get_or (pairs_below n) (2 * p + i) 0 ≡ get_or (digits 2 p) i 0
unfolding pairs_below
byte_in zero p i h j = absurd (omega arith)
byte_in (suc n) p i h j =
    let before = pairs_below n in
    let many = pairs_length n in
    elim (dec_lt p n) [
      | yes l ↦ get_or-append before (digits 2 n) 0 (2 * p + i) (omega arith) ∙ byte_in n p i l j
      | no l ↦
          let last : p ≡ n = omega arith in
          let same : 2 * n + i - 2 * n ≡ i = omega arith in
          rw (
            last,
            get_or-append_right before (digits 2 n) (2 * n) (2 * n + i) 0 many (omega arith),
            same,
          )
    ]

byte_at : (p i : ℕ) → p < 100 → i < 2 → get_or PAIRS (2 * p + i) 0 ≡ get_or (digits 2 p) i 0
byte_at p i h j = rw table_is (byte_in 100 p i h j)

pub returns : goal.returns
unfolding digits
returns c =
    let tens = byte_at c.args.n 0 c.requires.below (omega arith) in
    let units = byte_at c.args.n 1 c.requires.below (omega arith) in
    let next : c.args.at + 1 ≡ suc c.args.at = omega arith in
    let first : 2 * c.args.n + 0 ≡ 2 * c.args.n = omega arith in
    record { bytes = rw (← tens, ← units, ← next, first) refl; next = refl }
