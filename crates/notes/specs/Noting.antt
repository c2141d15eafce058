-- docs/RULES.md, "Definitions that state no rule": what the answers of field notes owe of the lent
-- bytes.
use Rattle.std.specs.Prelude.{List, ◌≡◌, ℕ, ◌≤◌, length, take, Result, Ok, Err}
use Rattle.tape.specs.Tape.{reading_of, told_reading}
use Rattle.notes.specs.declared.Wrong.{Wrong}
use Rattle.answer.specs.declared.Refused.{Refused}

-- a tape that is answered lies within the lent bytes, and it reads
abbrev pub Owed : Result ℕ Wrong → List ℕ → Type 0
Owed (Ok n) out = (n ≤ length out) × ((told_reading (reading_of (take n out))).number ≡ 0)
Owed (Err wrong) out = Unit {0}

-- how many of the lent bytes a text takes
abbrev pub text_length_of : Result ℕ Refused → ℕ
text_length_of (Ok n) = n
text_length_of (Err refused) = 0
