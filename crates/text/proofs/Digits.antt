-- How many digits a number has: one below ten, else one more than its tenth has. So it is the
-- fewest that hold the number, and nothing is padded.
use Prim.Native.Nat.{ℕ, max, zero, suc, ◌+◌, ◌*◌, ◌/◌, ◌%◌, ◌^◌, ◌≤◌, ◌<◌}
use native.Mathlib.Omega.{arith}
use native.Mathlib.Decide.{dec_lt}
use native.Mathlib.Nat.{pow-suc, pow-succ', one-le-pow, div-div-eq-div-mul}
use mathlib.Core.Path.{◌≡◌, refl, sym, ◌∙◌, ap}
use mathlib.Core.List.{List, [], ◌∷◌, ◌++◌, append_assoc}
use borrow.Author.Tests.{lt-ltb, le-ltb}
use lib.ListN.{length, set, length-append}
use lib.Seq.{sets}
use Rattle.text.specs.Text.{digits, digit_count_in, digit_count, decimal}
use Rattle.text.specs.Room.{Room, Put}
use Rattle.text.proofs.Putting.{sets_last}

digit_count_in_low : (f n : ℕ) → n < 10 → digit_count_in f n ≡ 1
unfolding digit_count_in
digit_count_in_low zero n h = refl
digit_count_in_low (suc f) n h = rw (lt-ltb n 10 h)

digit_count_in_high : (f n : ℕ) → 10 ≤ n → digit_count_in (suc f) n ≡ 1 + digit_count_in f (n / 10)
unfolding digit_count_in
digit_count_in_high f n h = rw (le-ltb n 10 h)

-- any number of steps that is at least n is enough
digit_count_in_enough : (f g n : ℕ) → n ≤ f → n ≤ g → digit_count_in f n ≡ digit_count_in g n
digit_count_in_enough zero g n h i =
    rw (digit_count_in_low zero n (omega arith), digit_count_in_low g n (omega arith))
digit_count_in_enough (suc f) zero n h i =
    rw (digit_count_in_low (suc f) n (omega arith), digit_count_in_low zero n (omega arith))
digit_count_in_enough (suc f) (suc g) n h i =
    elim (dec_lt n 10) [
      | yes l ↦ rw (digit_count_in_low (suc f) n l, digit_count_in_low (suc g) n l)
      | no l ↦ rw (
        digit_count_in_high f n (omega arith),
        digit_count_in_high g n (omega arith),
        digit_count_in_enough f g (n / 10) (omega arith) (omega arith),
      )
    ]

pub digit_count_low : (n : ℕ) → n < 10 → digit_count n ≡ 1
digit_count_low n h = digit_count_in_low n n h

pub digit_count_high : (n : ℕ) → 10 ≤ n → digit_count n ≡ 1 + digit_count (n / 10)
digit_count_high zero h = absurd (omega arith)
digit_count_high (suc n) h =
    rw (
      digit_count_in_high n (suc n) h,
      digit_count_in_enough n (suc n / 10) (suc n / 10) (omega arith) (omega arith),
    )

pub digit_count_some : (n : ℕ) → 1 ≤ digit_count n
digit_count_some n =
    elim (dec_lt n 10) [
      | yes l ↦ omega (arith, digit_count_low n l)
      | no l ↦ omega (arith, digit_count_high n (omega arith))
    ]

-- few steps are enough for few digits
digit_count_in_short : (f n : ℕ) → n < 10 ^ suc f → digit_count_in f n ≡ digit_count n
digit_count_in_short zero n h =
    rw (digit_count_in_low zero n (omega arith), digit_count_low n (omega arith))
digit_count_in_short (suc f) n h =
    elim (dec_lt n 10) [
      | yes l ↦ rw (digit_count_in_low (suc f) n l, digit_count_low n l)
      | no l ↦ rw (
        digit_count_in_high f n (omega arith),
        digit_count_high n (omega arith),
        digit_count_in_short f (n / 10) (omega arith),
      )
    ]

pub decimal_short : (f n : ℕ) → n < 10 ^ suc f → decimal n ≡ digits (digit_count_in f n) n
unfolding decimal
decimal_short f n h = rw (digit_count_in_short f n h)

-- no more than k digits, where k digits hold the number
pub digit_count_most : (k n : ℕ) → n < 10 ^ suc k → digit_count n ≤ suc k
digit_count_most zero n h = rw (digit_count_low n (omega arith)) (omega arith)
digit_count_most (suc k) n h =
    elim (dec_lt n 10) [
      | yes l ↦ rw (digit_count_low n l) (omega arith)
      | no l ↦ rw (digit_count_high n (omega arith))
          (omega (arith, digit_count_most k (n / 10) (omega arith)))
    ]

-- they hold it, and one fewer would not
pub digit_count_hold : (k n : ℕ) → digit_count n ≤ k → n < 10 ^ k
digit_count_hold zero n h =
    elim (dec_lt n 10) [
      | yes l ↦ absurd (omega (arith, digit_count_low n l))
      | no l ↦ absurd (omega (arith, digit_count_high n (omega arith)))
    ]
digit_count_hold (suc k) n h =
    elim (dec_lt n 10) [
      | yes l ↦ omega (arith, pow-suc 10 k, one-le-pow k 10 (omega arith))
      | no l ↦ omega (
        arith,
        pow-suc 10 k,
        digit_count_hold k (n / 10) (omega (arith, digit_count_high n (omega arith))),
      )
    ]

pub digit_count_fewest : (k n : ℕ) → suc k < digit_count n → 10 ^ suc k ≤ n
digit_count_fewest k n h =
    elim (dec_lt n (10 ^ suc k)) [
      | yes l ↦ absurd (omega (arith, digit_count_most k n l))
      | no l ↦ omega arith
    ]

-- between two powers of ten it has as many as the higher one has zeros
pub digit_count_exact : (k n : ℕ) → 10 ^ k ≤ n → n < 10 ^ suc k → suc k ≡ digit_count n
digit_count_exact k n h i =
    elim (dec_lt (digit_count n) (suc k)) [
      | yes l ↦ absurd (omega (arith, digit_count_hold k n (omega arith)))
      | no l ↦ omega (arith, digit_count_most k n i)
    ]

-- the last digit goes first, then the k before it
pub tenth_first : (k n : ℕ) → n / 10 ^ suc k ≡ n / 10 / 10 ^ k
tenth_first k n = rw (pow-succ' 10 k) (sym (div-div-eq-div-mul n 10 (10 ^ k)))

-- the count of the code, by the power of ten; zero has one digit as one has
pub count_by_power : (k n m : ℕ) → m ≡ max n 1 → 10 ^ k ≤ m → m < 10 * 10 ^ k
    → k + 1 ≡ digit_count n
count_by_power zero n m e h i = omega (arith, digit_count_low n (omega arith))
count_by_power (suc k) n m e h i =
    let tens = pow-suc 10 k in
    let some = one-le-pow k 10 (omega arith) in
    let below : n < 10 ^ suc (suc k) = omega (arith, pow-suc 10 (suc k)) in
    omega (arith, digit_count_exact (suc k) n (omega (arith, tens, some)) below)

-- ---- the digits of the code, the last one first
pub digits_length : (k n : ℕ) → length (digits k n) ≡ k
unfolding digits
digits_length zero n = refl
digits_length (suc k) n =
    omega (arith, length-append (digits k (n / 10)) ((48 + n % 10) ∷ []), digits_length k (n / 10))

pub decimal_length : (n : ℕ) → length (decimal n) ≡ digit_count n
unfolding decimal
decimal_length n = digits_length (digit_count n) n

-- the last digit, and the last two, go after those before them
digit_last : (j n : ℕ) → digits (j + 1) n ≡ digits j (n / 10) ++ ((48 + n % 10) ∷ [])
unfolding digits
digit_last j n = let more : j + 1 ≡ suc j = omega arith in rw more

two_last : (j n : ℕ) → digits (j + 2) n ≡ digits j (n / 100) ++ digits 2 (n % 100)
unfolding digits
two_last j n =
    let tens : n % 100 / 10 % 10 ≡ n / 10 % 10 = omega arith in
    let units : n % 100 % 10 ≡ n % 10 = omega arith in
    let both : n / 10 / 10 ≡ n / 100 = omega arith in
    let more : j + 2 ≡ suc (suc j) = omega arith in
    rw (more, tens, units, both) (append_assoc (digits j (n / 100)) _ _)

-- ---- the digits put from the last one on: with those of the rest in front of them, they all stand
-- the bytes of two digits
bytes_of_lem : (a b t : ℕ) → a < 10 → b < 10 → t ≡ 48 + a + 256 * (48 + b)
    → (t % 256 ≡ 48 + a) × (t / 256 % 256 ≡ 48 + b)
bytes_of_lem a b t h i e = (omega arith, omega arith)

module _ (l : List ℕ) (at k n : ℕ) where
  pub digits_room : Room l at (digits k n) → at + k ≤ length l
  digits_room h = omega (arith, digits_length k n)

  module _ (m : List ℕ) (j rest : ℕ) where
    pub digit_next : (i : ℕ) → i ≡ at + j
        → sets m at (digits (j + 1) rest) ≡ sets l at (digits k n)
        → sets (set m i (48 + rest % 10)) at (digits j (rest / 10)) ≡ sets l at (digits k n)
    digit_next i e h =
        let before = digits j (rest / 10) in
        let f : i ≡ at + length before = omega (arith, digits_length j (rest / 10)) in
        rw f
        (sym (sets_last before ((48 + rest % 10) ∷ []) m at)
        ∙ ap (sets m at) (sym (digit_last j rest)) ∙ h)

    pub none_left : j ≡ 0 → sets m at (digits j rest) ≡ sets l at (digits k n)
        → Put l at (digits k n) m (at + k)
    unfolding digits
    none_left e h = record {
      bytes = rw e at h;
      next = ap (λ (i : ℕ). at + i) (sym (digits_length k n));
    }

-- ---- a number of all its digits, two digits a turn
pub count_two : (n : ℕ) → 99 < n → digit_count n ≡ digit_count (n / 100) + 2
count_two n h =
    let both : n / 10 / 10 ≡ n / 100 = omega arith in
    rw (digit_count_high n (omega arith), digit_count_high (n / 10) (omega arith), both)
    (omega arith)

decimal_two : (n : ℕ) → 99 < n → decimal n ≡ decimal (n / 100) ++ digits 2 (n % 100)
unfolding decimal
decimal_two n h = rw (count_two n h) (two_last (digit_count (n / 100)) n)

decimal_pair : (n : ℕ) → 9 < n → n ≤ 99 → decimal n ≡ digits 2 n
unfolding decimal
decimal_pair n h i = rw (digit_count_high n h, digit_count_low (n / 10) (omega arith)) refl

decimal_digit : (n : ℕ) → n ≤ 9 → decimal n ≡ (48 + n) ∷ []
unfolding decimal digits
decimal_digit n h =
    let same : n % 10 ≡ n = omega arith in rw (digit_count_low n (omega arith), same) refl

pub count_last : (n : ℕ) → 9 < n → 2 ≤ digit_count n
count_last n h = omega (arith, digit_count_high n (omega arith), digit_count_some (n / 10))

module _ (m : List ℕ) (at rest : ℕ) (all : List ℕ) (e : sets m at (decimal rest) ≡ all) where
  pub pair_next : (a : List ℕ) (i r : ℕ) → 99 < rest → i ≡ at + digit_count (rest / 100)
      → Put m i (digits 2 (rest % 100)) a r → sets a at (decimal (rest / 100)) ≡ all
  pair_next a i r h f p =
      let before = decimal (rest / 100) in
      let g : i ≡ at + length before = omega (arith, decimal_length (rest / 100)) in
      rw (p.bytes, g)
      (sym (sets_last before (digits 2 (rest % 100)) m at)
      ∙ ap (sets m at) (sym (decimal_two rest h)) ∙ e)

  pub pair_last : (a : List ℕ) (r : ℕ) → 9 < rest → rest ≤ 99 → Put m at (digits 2 rest) a r
      → a ≡ all
  pair_last a r h i p = p.bytes ∙ ap (sets m at) (sym (decimal_pair rest h i)) ∙ e

  pub digit_alone : rest ≤ 9 → set m at (48 + rest) ≡ all
  digit_alone h = ap (sets m at) (sym (decimal_digit rest h)) ∙ e

-- as many bytes as digits
pub decimal_put : (l m : List ℕ) (at n i : ℕ) → m ≡ sets l at (decimal n) → i ≡ at + digit_count n
    → Put l at (decimal n) m i
decimal_put l m at n i e f = record { bytes = e; next = omega (arith, decimal_length n) }
