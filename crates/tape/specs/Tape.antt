-- docs/RULES.md, "The tape" and "Nine refusals": the reading that stands before refusals 8 and 9.
-- For every list of bytes it is the state at the end, or the refusal with its place.
use Rattle.std.specs.Prelude.{Bool, true, false, cond, ◌&&◌, ◌||◌, List, [], ◌∷◌, ◌++◌, ℕ, zero}
use Rattle.std.specs.Prelude.{suc, ◌+◌, ◌-◌, leb, ltb, eqb, length, get_or, ℤ, pos, nat_abs}
use Rattle.std.specs.Prelude.{Option, Some, None, Result, Ok, Err}
use Rattle.answer.specs.Limit.{most_legs}
use Rattle.answer.specs.Refusal.{number_of}
use Rattle.answer.specs.declared.Refusal.{Refusal}
use Rattle.answer.specs.declared.Refusal.TheVariants.{CutShort, OutOfOrder, OutOfRange, BadRows}
use Rattle.answer.specs.declared.Refusal.TheVariants.{TooManyLegs, NoRow}
use Rattle.answer.specs.declared.Refused.{Refused}
use Rattle.tape.specs.declared.Phase.{Phase}
use Rattle.tape.specs.declared.Phase.TheVariants.{AtRows, AfterProject, LineBegun, AfterLeg, Closed}
use Rattle.tape.specs.declared.State.{State}
use Rattle.records.specs.Record.{row_kind, project_kind, start_kind, leg_kind, close_kind}
use Rattle.records.specs.Record.{Rec, body_of, numbers_of, good_of, bytes_of}

-- what refuses a record, and its place
abbrev pub refused_at : {A : Type 0} → Refusal → ℕ → Result A Refused
refused_at r at = Err (record { refusal = r; place = at })

-- ---- "Order: 0 to 600 rows ..; one project; one start; 1 to 64 legs; one close; end."
-- the most rows; the most legs are among the limits of `answer`
abbrev pub most_rows : ℕ
most_rows = 600

-- the kinds that are legs
abbrev pub is_leg : ℕ → Bool
is_leg k = eqb k leg_kind

-- which kinds may come, by what has come last: nothing or rows, the project, the start, a leg, or
-- the close
abbrev pub comes_in : Phase → ℕ → Bool
comes_in AtRows k = eqb k row_kind || eqb k project_kind
comes_in AfterProject k = eqb k start_kind
comes_in LineBegun k = is_leg k
comes_in AfterLeg k = is_leg k || eqb k close_kind
comes_in Closed k = false

unfoldable pub may_come : State → ℕ → Bool
may_come st k = comes_in st.phase k

-- what refuses the 601st row and the 65th leg; nothing where there is room
unfoldable pub room_of : State → ℕ → Option Refusal
room_of st k =
    cond (eqb k row_kind) (cond (ltb st.rows most_rows) None (Some BadRows))
    (cond (is_leg k) (cond (ltb st.legs most_legs) None (Some TooManyLegs))
    None)

-- ---- what a record that is taken changes
abbrev pub in_phase : Phase → State → State
in_phase p st = record { phase = p; rows = st.rows; next = st.next; legs = st.legs }

abbrev pub with_row : State → ℕ → State
with_row st minute =
    record { phase = AtRows; rows = st.rows + 1; next = minute + 1; legs = st.legs }

abbrev pub with_leg : State → State
with_leg st =
    record { phase = AfterLeg; rows = st.rows; next = st.next; legs = st.legs + 1 }

-- "each one minute above the row before": else 5. The first row has none before it
unfoldable pub row_next : State → ℕ → Result State Refusal
row_next st minute =
    cond (eqb st.rows 0 || eqb minute st.next) (Ok (with_row st minute)) (Err BadRows)

-- "no row for the mean latitude": 7. The rows have the minutes from next - rows to next - 1
-- (`no_row` of proofs/Rows.antt)
unfoldable pub project_next : State → ℕ → Result State Refusal
project_next st latitude =
    cond (ltb latitude st.next && leb (st.next - latitude) st.rows)
    (Ok (in_phase AfterProject st))
    (Err NoRow)

-- the first number of a record, a minute for rows and the project
abbrev pub minute_of : List ℤ → ℕ
minute_of vs = nat_abs (get_or vs 0 (pos 0))

-- what follows a record that is whole and in range
unfoldable pub after_of : State → ℕ → List ℤ → Result State Refusal
after_of st k vs =
    cond (eqb k row_kind) (row_next st (minute_of vs))
    (cond (eqb k project_kind) (project_next st (minute_of vs))
    (cond (eqb k start_kind) (Ok (in_phase LineBegun st))
    (cond (is_leg k) (Ok (with_leg st))
    (Ok (in_phase Closed st)))))

-- ---- "in a record: its kind (3), the 601st row or 65th leg (5, 6), its body whole (2), its fields
-- in order (4), then row succession (5) or the row for the latitude (7)": the order of the tests is
-- the shape of these two
abbrev pub on_room : Option Refusal → Result State Refusal → Result State Refusal
on_room None taken = taken
on_room (Some r) taken = Err r

unfoldable pub take_of : State → ℕ → Bool → List ℤ → Result State Refusal
take_of st k whole vs =
    on_room (room_of st k)
    (cond whole (cond (good_of k vs) (after_of st k vs) (Err OutOfRange)) (Err CutShort))

unfoldable pub judge : State → ℕ → Bool → List ℤ → Result State Refusal
judge st k whole vs = cond (may_come st k) (take_of st k whole vs) (Err OutOfOrder)

-- the record at the front of l: what has been read with it, or its refusal
unfoldable pub step_of : State → List ℕ → Result State Refusal
step_of st l = let k = get_or l 0 0 in judge st k (ltb (body_of k) (length l)) (numbers_of k l)

-- ---- the tape from a record on: at is its place, and n bytes of the record before are still to
-- pass. A refusal's place is the record's first byte; where the tape ends before a close is read,
-- the place is its length
abbrev pub on_step : Result State Refusal → ℕ → (State → Result State Refused)
    → Result State Refused
on_step (Ok st) at f = f st
on_step (Err r) at f = refused_at r at

abbrev pub is_closed : Phase → Bool
is_closed AtRows = false
is_closed AfterProject = false
is_closed LineBegun = false
is_closed AfterLeg = false
is_closed Closed = true

abbrev pub at_end : State → ℕ → Result State Refused
at_end st at = cond (is_closed st.phase) (Ok st) (refused_at CutShort at)

unfoldable pub walk : State → ℕ → ℕ → List ℕ → Result State Refused
walk st at n [] = at_end st at
walk st at (suc n) (x ∷ l) = walk st at n l
walk st at zero (x ∷ l) =
    on_step (step_of st (x ∷ l)) at (λ st'. walk st' (at + 1 + body_of x) (body_of x) l)

abbrev pub start : State
start = record { phase = AtRows; rows = 0; next = 0; legs = 0 }

unfoldable pub reading_of : List ℕ → Result State Refused
reading_of tape = walk start 0 0 tape

-- ---- the fields of a tape are its records; and the tape of some records
unfoldable pub records_from : ℕ → List ℕ → List Rec
records_from n [] = []
records_from (suc n) (x ∷ l) = records_from n l
records_from zero (x ∷ l) =
    record { kind = x; values = numbers_of x (x ∷ l) } ∷ records_from (body_of x) l

abbrev pub records_of : List ℕ → List Rec
records_of tape = records_from 0 tape

unfoldable pub tape_of : List Rec → List ℕ
tape_of [] = []
tape_of (r ∷ rs) = bytes_of r.kind r.values ++ tape_of rs

-- the tests of the reading over records, whose bodies are whole: what refusal "tested before 8"
-- some fields meet
unfoldable pub run_of : State → ℕ → List Rec → Result State Refused
run_of st at [] = at_end st at
run_of st at (r ∷ rs) =
    on_step (judge st r.kind true r.values) at
    (λ st'. run_of st' (at + 1 + body_of r.kind) rs)

abbrev pub fields_read : List Rec → Result State Refused
fields_read rs = run_of start 0 rs

-- ---- what is told: number, place, and what was read, of which every number is zero on a refusal
pub record ToldReading (A : Type 0) : Type 0 where
  pub number : ℕ
  pub place : ℕ
  pub read : A

abbrev pub told_refusal : {A : Type 0} → A → Refused → ToldReading A
told_refusal none r = record { number = number_of r.refusal; place = r.place; read = none }

-- what came last, as a number; 2 is kept for a record between the project and the start
abbrev pub phase_number : Phase → ℕ
phase_number AtRows = 0
phase_number AfterProject = 1
phase_number LineBegun = 3
phase_number AfterLeg = 4
phase_number Closed = 5

pub record ToldState : Type 0 where
  pub phase : ℕ
  pub rows : ℕ
  pub next : ℕ
  pub legs : ℕ

abbrev pub told_state : State → ToldState
told_state st =
    record { phase = phase_number st.phase; rows = st.rows; next = st.next; legs = st.legs }

abbrev pub no_state : ToldState
no_state = record { phase = 0; rows = 0; next = 0; legs = 0 }

abbrev pub told_reading : Result State Refused → ToldReading ToldState
told_reading (Ok st) = record { number = 0; place = 0; read = told_state st }
told_reading (Err r) = told_refusal no_state r
