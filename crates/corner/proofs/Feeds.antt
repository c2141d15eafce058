-- Line feeds of the sheet: no number prints one, so that each line ends with its only one, and
-- before the line of station k stand k + 1 of them.
use Prim.Native.Nat.{ℕ, zero, suc, ◌+◌, ◌/◌, ◌%◌, ◌^◌}
use native.Mathlib.Omega.{arith}
use mathlib.Core.Path.{◌≡◌, refl, sym}
use mathlib.Core.List.{List, [], ◌∷◌, ◌++◌, append_assoc, append-nil}
use borrow.Author.Tests.{ne_eqb}
use lib.IntN.{ℤ, pos, nat_abs}
use lib.Signed.{lt_z}
use Rattle.whole.proofs.Branch.{by_test}
use Rattle.text.specs.Text.{ascii, digits, digit_count, decimal, pointed, sign, amount, signed}
use Rattle.text.specs.Text.{plain}
use Rattle.desk.specs.Answer.{ToldTraverse}
use Rattle.desk.specs.Sheet.{closures_text, close_line, station_line, line_of, station_lines}
use Rattle.desk.proofs.ShownLines.{lines_before}
use Rattle.corner.specs.Printed.{feeds}

feeds_append : (xs ys : List ℕ) → feeds (xs ++ ys) ≡ feeds xs + feeds ys
unfolding feeds
feeds_append [] ys = omega arith
feeds_append (x ∷ xs) ys = omega (arith, feeds_append xs ys)

-- ---- numbers have none
abbrev None : List ℕ → Type 0
None l = feeds l ≡ 0

none_append : (xs ys : List ℕ) → None xs → None ys → None (xs ++ ys)
none_append xs ys h i = omega (arith, feeds_append xs ys)

digits_none : (k n : ℕ) → None (digits k n)
unfolding digits feeds
digits_none zero n = refl
digits_none (suc k) n =
    none_append (digits k (n / 10)) _ (digits_none k (n / 10))
    (rw (ne_eqb (48 + n % 10) 10 (λ e. omega arith)))

decimal_none : (n : ℕ) → None (decimal n)
unfolding decimal
decimal_none n = digits_none (digit_count n) n

amount_none : (plus : List ℕ) → None plus → (d : ℕ) (z : ℤ) → None (amount plus d z)
unfolding amount sign pointed feeds
amount_none plus h d z =
    let n = nat_abs z in
    none_append (sign plus z) _ (by_test None (lt_z z (pos 0)) (λ t. refl) (λ t. h))
    (none_append (decimal (n / 10 ^ d) ++ ascii ".") (digits d n)
    (none_append (decimal (n / 10 ^ d)) (ascii ".") (decimal_none (n / 10 ^ d)) refl)
    (digits_none d n))

-- ---- a text that ends with a line feed, before which n others stand
pub record Ends (text : List ℕ) (n : ℕ) : Type 0 where
  pub start : List ℕ
  pub is : text ≡ start ++ ascii "\n"
  pub lines : feeds start ≡ n

one_line : (l : List ℕ) → None l → Ends (l ++ ascii "\n") 0
one_line l h = record { start = l; is = refl; lines = h }

-- a line more
next_line : (n : ℕ) (xs ys : List ℕ) → Ends xs n → Ends ys 0 → Ends (xs ++ ys) (suc n)
unfolding feeds
next_line n xs ys a b =
    record {
      start = xs ++ b.start;
      is = rw b.is (sym (append_assoc xs b.start (ascii "\n")));
      lines =
          rw a.is
          (omega (
            arith,
            feeds_append (a.start ++ ascii "\n") b.start,
            feeds_append a.start (ascii "\n"),
            a.lines,
            b.lines,
          ));
    }

-- ---- the lines of the sheet
close_line_lem : (w n e : ℤ) (p : ℕ) → Ends (close_line w n e p) 0
unfolding close_line closures_text feeds
close_line_lem w n e p =
    let first = ascii "CLOSE W=" ++ signed 1 w in
    let north = ascii " N=" ++ signed 2 n in
    let east = ascii " E=" ++ signed 2 e in
    let last = ascii " P=" ++ decimal p in
    rw (sym (append_assoc (first ++ north ++ east) last (ascii "\n")))
    (one_line (first ++ north ++ east ++ last)
    (none_append (first ++ north ++ east) last
    (none_append (first ++ north) east
    (none_append first north
    (none_append (ascii "CLOSE W=") (signed 1 w) refl (amount_none (ascii "+") refl 1 w))
    (none_append (ascii " N=") (signed 2 n) refl (amount_none (ascii "+") refl 2 n)))
    (none_append (ascii " E=") (signed 2 e) refl (amount_none (ascii "+") refl 2 e)))
    (none_append (ascii " P=") (decimal p) refl (decimal_none p))))

station_line_lem : (k : ℕ) (n e : ℤ) → Ends (station_line k n e) 0
unfolding station_line feeds
station_line_lem k n e =
    let north = ascii " " ++ plain 2 n in
    let east = ascii " " ++ plain 2 e in
    rw (sym (append_assoc (decimal k) (north ++ east) (ascii "\n")))
    (one_line (decimal k ++ (north ++ east))
    (none_append (decimal k) (north ++ east) (decimal_none k)
    (none_append north east
    (none_append (ascii " ") (plain 2 n) refl (amount_none [] refl 2 n))
    (none_append (ascii " ") (plain 2 e) refl (amount_none [] refl 2 e)))))

pub before_ends : (t : ToldTraverse) (words : List ℤ) (k : ℕ) → Ends (lines_before t words k) k
unfolding station_lines line_of
before_ends t words zero =
    rw append-nil (close_line_lem t.w t.north_closure t.east_closure t.precision)
before_ends t words (suc k) =
    rw (sym (append_assoc (close_line t.w t.north_closure t.east_closure t.precision)
    (station_lines words k) (line_of words k)))
    (next_line k _ _ (before_ends t words k) (station_line_lem k _ _))
