-- docs/RULES.md, "The writer": the writer of one record into the rest of the lent bytes. It tests
-- the room (refusal 1), then the fields (refusal 4) at the given place.
use Rattle.std.specs.Prelude.{Bool, cond, List, ◌++◌, ◌≡◌, ℕ, ◌+◌, leb, length, take, drop}
use Rattle.std.specs.Prelude.{Result, Ok, Err}
use Rattle.answer.specs.declared.Refusal.{Refusal}
use Rattle.answer.specs.declared.Refusal.TheVariants.{NoRoom, OutOfRange}
use Rattle.answer.specs.declared.Refused.{Refused}
use Rattle.answer.specs.Refusal.{number_of}

-- a refusal, and its place
abbrev pub unwritten : Refusal → ℕ → Result ℕ Refused
unwritten refusal place = Err (record { refusal = refusal; place = place })

-- the answer: no room and place 0 where the record has no room, out of range and the given place
-- where a field is out of range, else the next place
unfoldable pub answer_of : List ℕ → ℕ → Bool → List ℕ → Result ℕ Refused
answer_of out place good bytes =
    cond (leb (place + length bytes) (length out))
    (cond good (Ok (place + length bytes)) (unwritten OutOfRange place))
    (unwritten NoRoom 0)

-- the lent bytes afterwards: the record's at its place, and no other byte changed
unfoldable pub left_of : List ℕ → ℕ → Bool → List ℕ → List ℕ
left_of out place good bytes =
    cond (leb (place + length bytes) (length out))
    (cond good (take place out ++ (bytes ++ drop (place + length bytes) out)) out)
    out

-- ---- what is told: number, place and the next place, zeros on a refusal
pub record ToldWritten : Type 0 where
  pub number : ℕ
  pub place : ℕ
  pub next : ℕ

abbrev pub told_written : Result ℕ Refused → ToldWritten
told_written (Ok n) = record { number = 0; place = 0; next = n }
told_written (Err r) = record { number = number_of r.refusal; place = r.place; next = 0 }

-- ---- what a writer owes: r is its answer, tells what the rules say, and out' is what it leaves of
-- out
pub record Wrote (out out' : List ℕ) (place : ℕ) (good : Bool) (bytes : List ℕ)
    (r : Result ℕ Refused) : Type 0 where
  pub answer : r ≡ answer_of out place good bytes
  pub tells : told_written r ≡ told_written (answer_of out place good bytes)
  pub left : out' ≡ left_of out place good bytes
