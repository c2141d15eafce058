-- A tape of more than 4,811 bytes is refused, and alike whatever follows its first 4,812. The order
-- lets at most 600 rows of 7 bytes, a project of 5, a start of 13, 64 legs of 9 and a close of 17
-- be taken, so that a record is refused before these bytes end, and no test of it sees a byte
-- after them.
use Prim.Native.Nat.{ℕ, zero, suc, ◌+◌, ◌-◌, ◌*◌, ◌≤◌, ◌<◌}
use native.Mathlib.Omega.{arith, not-le}
use mathlib.Core.Path.{◌≡◌, refl}
use mathlib.Core.List.{List, [], ◌∷◌, ◌++◌}
use mathlib.Core.Logic.{⊎_elim}
use mathlib.Core.Bool.{Bool, true, false}
use lib.IntN.{ℤ}
use lib.ListN.{length, length-append, get_or-append}
use borrow.Author.Tests.{lt-ltb}
use Rattle.records.specs.Bytes.{Width, two, four, byte_count, num}
use Rattle.records.specs.Record.{Field, table, kind_fields, total, numbers, numbers_of, body_of}
use Rattle.answer.specs.Limit.{most_legs}
use Rattle.tape.specs.Tape.{most_rows}
use Rattle.tape.specs.Tape.{is_leg, may_come, room_of, take_of, judge, step_of}
use Rattle.tape.specs.Tape.{on_step, walk, start, reading_of}
use Rattle.tape.specs.Passing.{InLine}
use Rattle.tape.specs.declared.State.{State}
use Rattle.tape.proofs.Coming.{Due, Came, due, came}
use Rattle.tape.proofs.Coming as by
use Rattle.tape.proofs.Picks.{by_leg}
use Rattle.std.specs.Prelude.{Option, Some, None, Result, Ok, Err}
use Rattle.answer.specs.declared.Refusal.{Refusal}
use Rattle.answer.specs.declared.Refused.{Refused}
use Rattle.tape.specs.declared.Phase.{Phase}
use Rattle.tape.specs.declared.Phase.TheVariants.{AtRows, AfterProject, LineBegun, AfterLeg, Closed}

-- the most bytes of a leg, of all from the first leg on, and of a tape
abbrev leg_bytes : ℕ
leg_bytes = 9

abbrev line_bytes : ℕ
line_bytes = leg_bytes * most_legs + 17

abbrev pub longest : ℕ
longest = 7 * most_rows + (5 + (13 + line_bytes))

-- ---- the most bytes that can still be taken
unfoldable ahead_in : Phase → State → ℕ
ahead_in AtRows st = 7 * (most_rows - st.rows) + (5 + (13 + line_bytes))
ahead_in AfterProject st = 13 + line_bytes
ahead_in LineBegun st = leg_bytes * (most_legs - st.legs) + 17
ahead_in AfterLeg st = leg_bytes * (most_legs - st.legs) + 17
ahead_in Closed st = 0

abbrev ahead : State → ℕ
ahead st = ahead_in st.phase st

module _ (st : State) (k : ℕ) where
  line_ahead : InLine st → ahead st ≡ leg_bytes * (most_legs - st.legs) + 17
  unfolding ahead_in
  line_ahead = ⊎_elim (λ p. rw p) (λ p. rw p)

  leg_body : is_leg k ≡ true → body_of k < leg_bytes
  unfolding body_of kind_fields table
  leg_body t = by_leg (λ k. body_of k < leg_bytes) (omega arith) k t

  -- a record that may come and has room is among them
  due_ahead : Due st k → body_of k < ahead st
  unfolding ahead_in body_of kind_fields table
  due_ahead (by.row e p low) = rw (e, p) (omega arith)
  due_ahead (by.project e p) = rw (e, p) (omega arith)
  due_ahead (by.start e p) = rw (e, p) (omega arith)
  due_ahead (by.leg t p low) = omega (arith, line_ahead p, leg_body t)
  due_ahead (by.close e p) = rw (e, p) (omega arith)

  -- and so are the most that can be taken after it
  came_ahead : (vs : List ℤ) (u : State) → Came st k vs u → body_of k + ahead u < ahead st
  unfolding ahead_in body_of kind_fields table
  came_ahead vs u (by.row e p low follows to) = rw (e, p, to) (omega arith)
  came_ahead vs u (by.project e p i to) = rw (e, p, to) (omega arith)
  came_ahead vs u (by.start e p to) = rw (e, p, to) (omega arith)
  came_ahead vs u (by.leg t p low to) = rw to (omega (arith, line_ahead p, leg_body t))
  came_ahead vs u (by.close e p to) = rw (e, p, to) (omega arith)

-- ---- the numbers of a record that is whole are the same whatever follows
num_more : (w : Width) (l r : List ℕ) (k : ℕ) → k + byte_count w ≤ length l
    → num w (l ++ r) k ≡ num w l k
unfolding num
num_more two l r k h =
    rw (get_or-append l r 0 k (omega arith), get_or-append l r 0 (suc k) (omega arith))
num_more four l r k h =
    rw (
      get_or-append l r 0 k (omega arith),
      get_or-append l r 0 (suc k) (omega arith),
      get_or-append l r 0 (suc (suc k)) (omega arith),
      get_or-append l r 0 (suc (suc (suc k))) (omega arith),
    )

numbers_more : (fs : List Field) (l r : List ℕ) (k : ℕ) → k + total fs ≤ length l
    → numbers fs (l ++ r) k ≡ numbers fs l k
numbers_more [] l r k h = refl
numbers_more (f ∷ fs) l r k h =
    let rest = numbers_more fs l r (k + byte_count f.width) (omega arith) in
    rw (num_more f.width l r k (omega arith), rest)

-- ---- a record at the front
-- one that is taken leaves so many fewer
step_ahead : (st u : State) (x : ℕ) (l : List ℕ) → Ok u ≡ step_of st (x ∷ l)
    → body_of x + ahead u < ahead st
unfolding step_of
step_ahead st u x l e = came_ahead st x _ u (came st u x _ _ e)

-- where there are more bytes than can be taken, it is judged the same whatever follows
step_more : (st : State) (x : ℕ) (l r : List ℕ) → ahead st ≤ length l
    → step_of st (x ∷ l ++ r) ≡ step_of st (x ∷ l)
unfolding step_of judge take_of numbers_of body_of
step_more st x l r h = go (may_come st x) refl (room_of st x) refl
  where
    go : (m : Bool) → may_come st x ≡ m → (o : Option Refusal) → room_of st x ≡ o
        → step_of st (x ∷ l ++ r) ≡ step_of st (x ∷ l)
    go true m None o =
        let low = due_ahead st x (due st x m o) in
        rw (
          m,
          o,
          lt-ltb (body_of x) (length (x ∷ l)) (omega arith),
          lt-ltb (body_of x) (length (x ∷ l ++ r)) (omega (arith, length-append l r)),
          numbers_more (kind_fields x) (x ∷ l) r 1 (omega arith),
        )
    go true m (Some n) o = rw (m, o)
    go false m q o = rw m

-- ---- the walk
-- two readings that are the same refusal
pub record Alike (a b : Result State Refused) : Type 0 where
  pub refused : Refused
  pub short : a ≡ Err refused
  pub whole : b ≡ Err refused

step_alike : (s : Result State Refusal) (at : ℕ) (f g : State → Result State Refused)
    → ((u : State) → Ok u ≡ s → Alike (f u) (g u)) → Alike (on_step s at f) (on_step s at g)
step_alike (Ok u) at f g h = h u refl
step_alike (Err n) at f g h =
    record { refused = record { refusal = n; place = at }; short = refl; whole = refl }

walk_alike : (st : State) (at n : ℕ) (l r : List ℕ) → n + ahead st < length l
    → Alike (walk st at n l) (walk st at n (l ++ r))
unfolding walk
walk_alike st at n [] r h = absurd (omega arith)
walk_alike st at (suc n) (x ∷ l) r h = walk_alike st at n l r (omega arith)
walk_alike st at zero (x ∷ l) r h =
    rw (step_more st x l r (omega arith)) (step_alike (step_of st (x ∷ l)) at _ _
    (λ u e. walk_alike u _ (body_of x) l r (omega (arith, step_ahead st u x l e))))

pub long_cut : (l r : List ℕ) → longest < length l → Alike (reading_of l) (reading_of (l ++ r))
unfolding reading_of ahead_in
long_cut l r h = walk_alike start 0 0 l r h

-- so a tape that reads is no longer
pub longest_tape : (tape : List ℕ) (last : State) → reading_of tape ≡ Ok last
    → length tape ≤ longest
longest_tape tape last e = omega (arith, not-le (longest + 1) (length tape) no_longer)
  where
    no_longer : ¬ (longest + 1 ≤ length tape)
    no_longer h =
        let r = long_cut tape [] (omega arith) in
        cc
