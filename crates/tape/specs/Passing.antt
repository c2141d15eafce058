-- docs/RULES.md, "Definitions that state no rule": what the reader's private functions promise one
-- another, each of its part of the tape. The reading of the whole is a refusal there, or the
-- reading from the place after the part on.
use Rattle.std.specs.Prelude.{◌≡◌, Bool, false, cond, ◌⊎◌, List, ℕ, ◌+◌, eqb, ltb, length, get_or}
use Rattle.std.specs.Prelude.{drop, Result, Ok, Err}
use Rattle.answer.specs.declared.Refusal.TheVariants.{CutShort, OutOfOrder}
use Rattle.answer.specs.declared.Refused.{Refused}
use Rattle.records.specs.Bytes.{two, num}
use Rattle.records.specs.Record.{row_kind, body_of, numbers_of, good_of}
use Rattle.tape.specs.declared.Phase.{Phase}
use Rattle.tape.specs.declared.Phase.TheVariants.{AtRows, LineBegun, AfterLeg}
use Rattle.tape.specs.declared.State.{State}
use Rattle.tape.specs.declared.order.Cursor.{Cursor}
use Rattle.tape.specs.Tape.{is_leg, with_row, with_leg, in_phase, refused_at, walk}
use Rattle.tape.specs.Tape.{reading_of}

abbrev pub cursor : ℕ → State → Cursor
cursor at st = record { at = at; st = st }

-- the reading from a cursor on
abbrev pub reading_from : List ℕ → Cursor → Result State Refused
reading_from tape c = walk c.st c.at 0 (drop c.at tape)

-- the reading where a part of the tape is passed to a cursor or refused: it goes on from the cursor
abbrev pub reached : List ℕ → Result Cursor Refused → Result State Refused
reached tape (Ok c) = reading_from tape c
reached tape (Err r) = Err r

-- ---- the cursor after a record
-- the cursor a number of bytes further on, in a phase
abbrev pub past : Cursor → ℕ → Phase → Cursor
past c bytes phase = cursor (c.at + bytes) (in_phase phase c.st)

abbrev pub past_row : List ℕ → Cursor → Cursor
past_row tape c = cursor (c.at + (1 + body_of row_kind)) (with_row c.st (num two tape (c.at + 1)))

abbrev pub past_leg : List ℕ → Cursor → Cursor
past_leg tape c = cursor (c.at + 1 + body_of (get_or tape c.at 0)) (with_leg c.st)

-- the record at the cursor is refused, or passed to the cursor after it
pub record Passes (tape : List ℕ) (c after : Cursor) (r : Result Cursor Refused) : Type 0 where
  pub same : reading_from tape c ≡ reached tape r
  pub to : (d : Cursor) → r ≡ Ok d → d ≡ after

-- what comes of a record, where the cursor after it is known and is not handed on
abbrev pub passed_to : Cursor → Result (Unit {0}) Refused → Result Cursor Refused
passed_to after (Ok _) = Ok after
passed_to after (Err r) = Err r

-- the one kind that may stand at a place stands there: at the end of the tape it is cut short,
-- before it another record is out of order
abbrev pub due_of : List ℕ → ℕ → ℕ → Result (Unit {0}) Refused
due_of tape at k =
    cond (ltb at (length tape))
    (cond (eqb (get_or tape at 0) k) (Ok tt) (refused_at OutOfOrder at))
    (refused_at CutShort at)

-- the numbers of the record at a place are in range
abbrev pub good_there : List ℕ → ℕ → Bool
good_there tape at = let k = get_or tape at 0 in good_of k (numbers_of k (drop at tape))

-- a state in which a leg may come
abbrev pub InLine : State → Type 0
InLine st = (st.phase ≡ LineBegun) ⊎ (st.phase ≡ AfterLeg)

-- ---- all rows, from the start on
pub record Rowed (tape : List ℕ) (r : Result Cursor Refused) : Type 0 where
  pub same : reading_of tape ≡ reached tape r
  pub phase : (c : Cursor) → r ≡ Ok c → c.st.phase ≡ AtRows
  pub none : (c : Cursor) → r ≡ Ok c → get_or tape c.at 0 ≡ row_kind → ⊥

-- all that stands before the legs
pub record Opened (tape : List ℕ) (r : Result Cursor Refused) : Type 0 where
  pub same : reading_of tape ≡ reached tape r
  pub begun : (c : Cursor) → r ≡ Ok c → InLine c.st

-- all legs, from a cursor on
pub record Walked (tape : List ℕ) (c : Cursor) (r : Result Cursor Refused) : Type 0 where
  pub same : reading_from tape c ≡ reached tape r
  pub line : (d : Cursor) → r ≡ Ok d → InLine d.st
  pub none : (d : Cursor) → r ≡ Ok d → is_leg (get_or tape d.at 0) ≡ false
