-- Records in code: a byte that no kind has has no body, and the record of a known kind has the
-- bytes and fields of that kind's row.
use mathlib.Core.Path.{◌≡◌, refl, sym}
use mathlib.Core.Bool.{true, false, ◌&&◌, and-eq-true_iff}
use Prim.Native.Nat.{ℕ, ◌+◌, ◌-◌, ◌≤◌}
use native.Mathlib.Omega.{arith}
use borrow.Author.Tests.{leb-true, ne_eqb}
use lib.Dec.{eqb, leb}
use lib.ListN.{length}
use lib.IntN.{ℤ, pos, negsuc, neg_ℤ, nat_abs}
use lib.Signed.{le_z}
use Rattle.std.proofs.lemmas.Bool.Decides.{nat_tests}
use Rattle.whole.specs.declared.Whole.{Whole}
use Rattle.records.specs.declared.Record.{Record}
use Rattle.records.specs.declared.Record.TheVariants as kinds
use Rattle.records.specs.declared.Kind.{Kind}
use Rattle.records.specs.declared.Kind.TheVariants.{Project, Start, Leg, Close, Row}
use Rattle.records.specs.Kinds.{byte_of}
use Rattle.records.specs.Bytes.{bytes}
use Rattle.records.specs.Record.{body_of, good_of, bytes_of, rec_of}
use Rattle.records.specs.Record.{good_record}
use Rattle.records.specs.Record.{bytes_of_record}

-- ---- the tests of a record's fields are those of numbers
pub ruleset tests = (nat_tests)

-- ---- the longest body is that of a close
pub body_at_most : (k : Kind) → body_of (byte_of k) ≤ 16
unfolding body_of
body_at_most Project = omega arith
body_at_most Start = omega arith
body_at_most Leg = omega arith
body_at_most Close = omega arith
body_at_most Row = omega arith

-- a byte that no kind has is no row of the table
pub no_body : (n : ℕ) → ((k : Kind) → byte_of k ≡ n → ⊥) → 0 ≡ body_of n
unfolding body_of
no_body n none =
    let no : (k : Kind) → eqb n (byte_of k) ≡ false = λ k. ne_eqb n _ (λ e. none k (sym e)) in
    rw (no Row, no Project, no Start, no Leg, no Close)

-- ---- the bytes of a record are one for the kind and those of the body
length_bytes : (r : Record) → length (bytes_of_record r) ≡ 1 + body_of (rec_of r).kind
unfolding rec_of bytes_of body_of bytes
length_bytes (kinds.Row m f) = refl
length_bytes (kinds.Project m e) = refl
length_bytes (kinds.Start n e m) = refl
length_bytes (kinds.Leg a d) = refl
length_bytes (kinds.Close a n e m) = refl

-- k is its kind and n the length of its bytes, as the code has them
module _ (given : Record) (k : Kind) (n : ℕ) (e : byte_of k ≡ (rec_of given).kind)
    (f : n ≡ 1 + body_of (byte_of k)) where
  pub length_given : length (bytes_of_record given) ≡ n
  length_given = rw (f, e) (length_bytes given)

  -- it fits where there is room for them
  pub room_given : (place len room : ℕ) → room ≡ len - place → n ≤ room
      → place + length (bytes_of_record given) ≤ len
  room_given place len room is h = omega (arith, length_given)

-- ---- what a project in range tells
pub project_feet : (given : Record) (latitude : ℕ) (elevation : Whole)
    → given ≡ kinds.Project latitude elevation → good_record given ≡ true
    → nat_abs elevation.v ≤ 20000
unfolding rec_of good_of
project_feet given latitude elevation e t =
    go elevation.v ((and-eq-true_iff (leb 0 latitude && leb latitude 5400) _).0 (rw e at t)).1
  where
    go : (z : ℤ) → ((le_z (neg_ℤ (pos 1000)) z && le_z z (pos 20000)) && true) ≡ true
        → nat_abs z ≤ 20000
    go (pos n) h = leb-true n 20000 ((and-eq-true_iff (leb n 20000) true).0 h).0
    go (negsuc n) h =
        omega (
          arith,
          leb-true n 999 ((and-eq-true_iff (leb n 999) true).0
              ((and-eq-true_iff (leb n 999 && true) true).0 h).0).0,
        )
