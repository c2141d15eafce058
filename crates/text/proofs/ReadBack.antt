-- What is printed reads back as the number, so different amounts never print alike. It holds
-- because the last k digits of n, read on from the number n / 10 ^ k before them, spell n, while
-- the point and a plus are passed over and a minus stands first exactly where the amount is
-- negative.
use Prim.Native.Nat.{ℕ, zero, suc, ◌+◌, ◌-◌, ◌*◌, ◌/◌, ◌%◌, ◌^◌, ◌<◌}
use native.Mathlib.Omega.{arith}
use native.Mathlib.Nat.{div-one, div-eq_of_lt}
use mathlib.Core.Path.{◌≡◌, refl, sym, ap, ◌∙◌}
use mathlib.Core.Bool.{false, cond, ◌&&◌}
use mathlib.Core.List.{List, [], ◌∷◌, ◌++◌}
use borrow.Author.Tests.{le-leb, le-ltb, ne_eqb}
use lib.Dec.{leb}
use lib.IntN.{ℤ, pos, negsuc}
use Rattle.text.specs.Text.{ascii, digits, digit_count, decimal, pointed, sign, amount, signed}
use Rattle.text.specs.Text.{plain}
use Rattle.text.specs.Read.{spelled, minus, amount_read}
use Rattle.text.proofs.Digits.{digit_count_hold, tenth_first}

-- ---- a text after a text
spelled_append : (n : ℕ) (xs ys : List ℕ) → spelled n (xs ++ ys) ≡ spelled (spelled n xs) ys
unfolding spelled
spelled_append n [] ys = refl
spelled_append n (x ∷ xs) ys =
    spelled_append (cond (leb 48 x && leb x 57) (10 * n + (x - 48)) n) xs ys

minus_append : (xs ys : List ℕ) → minus xs ≡ false → minus ys ≡ false → minus (xs ++ ys) ≡ false
minus_append [] ys h i = i
minus_append (x ∷ xs) ys h i = h

-- ---- digits
digit_back : (n d : ℕ) → d < 10 → spelled n ((48 + d) ∷ []) ≡ 10 * n + d
unfolding spelled
digit_back n d h = rw (le-leb 48 (48 + d) (omega arith), le-leb (48 + d) 57 (omega arith))
    (omega arith)

digits_back : (k n : ℕ) → spelled (n / 10 ^ k) (digits k n) ≡ n
unfolding digits spelled
digits_back zero n = div-one n
digits_back (suc k) n =
    rw (
      tenth_first k n,
      spelled_append (n / 10 / 10 ^ k) (digits k (n / 10)) _,
      digits_back k (n / 10),
    ) (digit_back (n / 10) (n % 10) (omega arith) ∙ omega arith)

minus_digits : (k n : ℕ) → minus (digits k n) ≡ false
unfolding digits
minus_digits zero n = refl
minus_digits (suc k) n =
    minus_append (digits k (n / 10)) _ (minus_digits k (n / 10))
    (ne_eqb (48 + n % 10) 45 (λ e. omega arith))

pub decimal_back : (n : ℕ) → spelled 0 (decimal n) ≡ n
unfolding decimal
decimal_back n = ap (λ (m : ℕ). spelled m (decimal n))
    (sym (div-eq_of_lt (digit_count_hold (digit_count n) n (omega arith)))) ∙ digits_back
    (digit_count n) n

-- ---- amounts
module _ (d n : ℕ) where
  abbrev whole : List ℕ
  whole = decimal (n / 10 ^ d)

  pointed_back : spelled 0 (pointed d n) ≡ n
  unfolding pointed spelled
  pointed_back =
      rw (
        spelled_append 0 (whole ++ ascii ".") (digits d n),
        spelled_append 0 whole (ascii "."),
        decimal_back (n / 10 ^ d),
      ) (digits_back d n)

  minus_pointed : minus (pointed d n) ≡ false
  unfolding pointed decimal
  minus_pointed =
      minus_append (whole ++ ascii ".") (digits d n)
      (minus_append whole (ascii ".") (minus_digits _ (n / 10 ^ d)) refl) (minus_digits d n)

-- whatever stands before an amount that is not negative, if it begins with no minus and spells
-- nothing
amount_back : (plus : List ℕ) → minus plus ≡ false → spelled 0 plus ≡ 0 → (d : ℕ) (z : ℤ)
    → amount_read (amount plus d z) ≡ z
unfolding amount sign amount_read spelled
amount_back plus m s d (pos n) =
    rw (
      le-ltb n 0 (omega arith),
      minus_append plus (pointed d n) m (minus_pointed d n),
      spelled_append 0 plus (pointed d n),
      s,
      pointed_back d n,
    )
amount_back plus m s d (negsuc n) = rw (pointed_back d (suc n))

pub signed_back : (d : ℕ) (z : ℤ) → amount_read (signed d z) ≡ z
unfolding spelled
signed_back d z = amount_back (ascii "+") refl refl d z

pub plain_back : (d : ℕ) (z : ℤ) → amount_read (plain d z) ≡ z
unfolding spelled
plain_back d z = amount_back [] refl refl d z

-- ---- different numbers never print alike
pub decimal_alone : (m n : ℕ) → decimal m ≡ decimal n → m ≡ n
decimal_alone m n e = sym (decimal_back m) ∙ ap (spelled 0) e ∙ decimal_back n

pub signed_alone : (d : ℕ) (y z : ℤ) → signed d y ≡ signed d z → y ≡ z
signed_alone d y z e = sym (signed_back d y) ∙ ap amount_read e ∙ signed_back d z

pub plain_alone : (d : ℕ) (y z : ℤ) → plain d y ≡ plain d z → y ≡ z
plain_alone d y z e = sym (plain_back d y) ∙ ap amount_read e ∙ plain_back d z
