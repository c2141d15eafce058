-- Any two outcomes that a promise of this crate allows coincide: a kind has one byte and one
-- length, a byte one kind, and numbers of a kind, or a record, are in range or are not. It is true
-- because each promise says what the outcome equals, from what was given alone, and no two kinds
-- have one byte.
use mathlib.Core.Path.{◌≡◌, refl, sym, ◌∙◌, ap}
use mathlib.Core.Bool.{Bool}
use mathlib.Core.List.{List, [], ◌∷◌}
use Prim.Native.Nat.{ℕ, ◌+◌}
use lib.IntN.{ℤ}
use Rattle.std.proofs.Common.{Result, Ok, Err, get_or}
use Rattle.records.specs.declared.UnknownKind.{UnknownKind}
use Rattle.records.specs.declared.Kind.{Kind}
use Rattle.records.specs.declared.Kind.TheVariants.{Project, Start, Leg, Close, Row}
use Rattle.records.specs.declared.Record.{Record}
use Rattle.records.specs.Kinds.{byte_of, NamesKind}
use Rattle.records.specs.Record.{body_of, good_of, rec_of, good_record}

-- `Kind::byte`
pub byte_single : (kind : Kind) (x y : ℕ) → x ≡ byte_of kind → y ≡ byte_of kind → x ≡ y
byte_single kind x y e f = e ∙ sym f

-- `body_len`, and with the byte of a kind `Kind::body`
pub body_len_single : (kind x y : ℕ) → x ≡ body_of kind → y ≡ body_of kind → x ≡ y
body_len_single kind x y e f = e ∙ sym f

-- `Kind::bytes`
pub bytes_single : (kind : Kind) (x y : ℕ) → x ≡ 1 + body_of (byte_of kind)
    → y ≡ 1 + body_of (byte_of kind) → x ≡ y
bytes_single kind x y e f = e ∙ sym f

-- the ranges of each kind's fields: `row_good`, `project_good`, `start_good`, `leg_good` and
-- `close_good`
pub fields_good_single : (kind : ℕ) (vs : List ℤ) (x y : Bool) → x ≡ good_of kind vs
    → y ≡ good_of kind vs → x ≡ y
fields_good_single kind vs x y e f = e ∙ sym f

-- `kind`
pub kind_single : (given : Record) (x y : ℕ) → x ≡ (rec_of given).kind → y ≡ (rec_of given).kind
    → x ≡ y
kind_single given x y e f = e ∙ sym f

-- the kinds by their bytes
abbrev named : ℕ → Kind
named n = get_or (Project ∷ Project ∷ Start ∷ Leg ∷ Close ∷ Row ∷ []) n Project

named_again : (k : Kind) → named (byte_of k) ≡ k
named_again Project = refl
named_again Start = refl
named_again Leg = refl
named_again Close = refl
named_again Row = refl

-- kinds of one byte are one
pub one_kind : (k j : Kind) → byte_of k ≡ byte_of j → k ≡ j
one_kind k j e = sym (named_again k) ∙ ap named e ∙ named_again j

-- `Record::kind`
pub kind_of_single : (given : Record) (x y : Kind) → byte_of x ≡ (rec_of given).kind
    → byte_of y ≡ (rec_of given).kind → x ≡ y
kind_of_single given x y e f = one_kind x y (e ∙ sym f)

-- `Kind::try_from`
pub named_single : (n : ℕ) (x y : Result Kind UnknownKind) → NamesKind n x → NamesKind n y → x ≡ y
named_single n (Ok k) (Ok j) e f = ap Ok (one_kind k j (e ∙ sym f))
named_single n (Ok k) (Err v) e f = absurd (f.1 k e)
named_single n (Err u) (Ok j) e f = absurd (e.1 j f)
named_single n (Err u) (Err v) e f = ap (λ (b : ℕ). Err (record { byte = b })) (e.0 ∙ sym f.0)

-- `good`, and `Record::good`
pub good_single : (given : Record) (x y : Bool) → x ≡ good_record given → y ≡ good_record given
    → x ≡ y
good_single given x y e f = e ∙ sym f
