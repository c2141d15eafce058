-- docs/RULES.md, "The tape": the byte of each case of the code's enum.
use Rattle.std.specs.Prelude.{◌≡◌, ℕ, Result, Ok, Err}
use Rattle.records.specs.declared.Kind.{Kind}
use Rattle.records.specs.declared.Kind.TheVariants.{Project, Start, Leg, Close, Row}
use Rattle.records.specs.declared.UnknownKind.{UnknownKind}
use Rattle.records.specs.Record.{row_kind, project_kind, start_kind, leg_kind, close_kind}

abbrev pub byte_of : Kind → ℕ
byte_of Project = project_kind
byte_of Start = start_kind
byte_of Leg = leg_kind
byte_of Close = close_kind
byte_of Row = row_kind

-- a byte names the kind that has it; one that no kind has is answered as it is
abbrev pub NamesKind : ℕ → Result Kind UnknownKind → Type 0
NamesKind n (Ok k) = byte_of k ≡ n
NamesKind n (Err u) = (u.byte ≡ n) × ((k : Kind) → byte_of k ≡ n → ⊥)
