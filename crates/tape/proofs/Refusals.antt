-- A tape that is refused before 8 and 9 has a number from 2 to 7. Every test of a record that fails
-- stops it with a number of its own among these, an end before the close gives 2, and the walk over
-- the tape only hands the number on.
use Prim.Native.Nat.{ℕ, zero, suc, ◌+◌, ◌≤◌}
use native.Mathlib.Omega.{arith}
use mathlib.Core.Path.{◌≡◌, subst}
use mathlib.Core.List.{List, [], ◌∷◌}
use mathlib.Core.Bool.{Bool, cond}
use lib.Dec.{eqb, ltb}
use borrow.Author.Rules.{rules}
use Rattle.records.specs.Record.{body_of, row_kind}
use Rattle.answer.specs.Limit.{most_legs}
use Rattle.tape.specs.Tape.{most_rows, is_leg, room_of, row_next, project_next}
use Rattle.tape.specs.Tape.{after_of, take_of, judge, step_of, on_room, on_step, is_closed}
use Rattle.tape.specs.Tape.{walk, start, reading_of}
use Rattle.tape.specs.declared.State.{State}
use Rattle.whole.proofs.Branch.{by_test}
use Rattle.std.specs.Prelude.{Option, Result, Ok, Err}
use Rattle.answer.specs.Refusal.{number_of}
use Rattle.answer.specs.declared.Refusal.{Refusal}
use Rattle.answer.specs.declared.Refused.{Refused}

abbrev Number : Refusal → Type 0
Number r = (2 ≤ number_of r) × (number_of r ≤ 7)

-- a step, and a reading, that is refused has such a number
abbrev Stops : Result State Refusal → Type 0
Stops (Ok st) = Unit {0}
Stops (Err n) = Number n

abbrev Refuses : Result State Refused → Type 0
Refuses (Ok st) = Unit {0}
Refuses (Err r) = Number r.refusal

-- ---- a record: either branch of a test, and 5 and 6 where there is no room
either : (b : Bool) (x y : Result State Refusal) → Stops x → Stops y → Stops (cond b x y)
either b x y h g = by_test Stops b (λ t. h) (λ t. g)

room_stops : (st : State) (k : ℕ) (x : Result State Refusal) → Stops x
    → Stops (on_room (room_of st k) x)
unfolding room_of
room_stops st k x h =
    let P : Option Refusal → Type 0 = λ o. Stops (on_room o x) in
    by_test P (eqb k row_kind)
    (λ t. by_test P (ltb st.rows most_rows) (λ u. h) (λ u. omega arith))
    (λ t. by_test P (is_leg k)
    (λ u. by_test P (ltb st.legs most_legs) (λ v. h) (λ v. omega arith))
    (λ u. h))

step_stops : (st : State) (l : List ℕ) → Stops (step_of st l)
unfolding step_of judge take_of after_of row_next project_next
step_stops st l = search (room_stops, either, rules) depth 20

-- ---- the walk
step_refuses : (s : Result State Refusal) (at : ℕ) (f : State → Result State Refused)
    → Stops s → ((st : State) → Refuses (f st)) → Refuses (on_step s at f)
step_refuses (Ok st) at f h g = g st
step_refuses (Err n) at f h g = h

walk_refuses : (st : State) (at n : ℕ) (l : List ℕ) → Refuses (walk st at n l)
unfolding walk
walk_refuses st at n [] = by_test Refuses (is_closed st.phase) (λ t. tt) (λ t. omega arith)
walk_refuses st at (suc n) (x ∷ l) = walk_refuses st at n l
walk_refuses st at zero (x ∷ l) =
    step_refuses (step_of st (x ∷ l)) at _ (step_stops st (x ∷ l))
    (λ u. walk_refuses u (at + 1 + body_of x) (body_of x) l)

pub reading_number : (tape : List ℕ) (r : Refused) → reading_of tape ≡ Err r
    → (2 ≤ number_of r.refusal) × (number_of r.refusal ≤ 7)
unfolding reading_of
reading_number tape r e = subst Refuses e (walk_refuses start 0 0 tape)
