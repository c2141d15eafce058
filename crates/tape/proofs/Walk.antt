-- The walk over the tape, a record at a time: what one turn of the reader's loop does to it.
use Prim.Native.Nat.{ℕ, zero, suc, ◌+◌, ◌≤◌, ◌<◌}
use native.Mathlib.Omega.{arith}
use native.Mathlib.Numerals.{add-one}
use mathlib.Core.Path.{◌≡◌, refl, sym, subst, ◌∙◌}
use mathlib.Core.List.{List, [], ◌∷◌}
use mathlib.Core.Bool.{Bool, true, false, cond}
use lib.Dec.{T, ltb}
use lib.IntN.{ℤ}
use lib.ListN.{length, get_or, drop, length-drop, drop_of_length-le}
use lib.Seq.{drop-cons, drop-drop}
use borrow.Author.Tests.{ltb-true}
use Rattle.tape.specs.Tape.{walk, step_of, may_come, room_of, after_of}
use Rattle.tape.specs.Tape.{take_of, judge, on_room, on_step, is_closed, refused_at}
use Rattle.records.specs.Record.{body_of, good_of, numbers_of}
use Rattle.tape.specs.declared.State.{State}
use Rattle.tape.proofs.Numbers.{head_drop}
use Rattle.std.specs.Prelude.{Option, Some, None, Result, Ok, Err}
use Rattle.answer.specs.declared.Refusal.{Refusal}
use Rattle.answer.specs.declared.Refusal.TheVariants.{CutShort, OutOfOrder, OutOfRange}
use Rattle.answer.specs.declared.Refused.{Refused}
use Rattle.tape.specs.declared.Phase.TheVariants.{Closed}

-- a test that is false is not true
pub no : {A : Type 0} → false ≡ true → A
no e = absurd (subst T (sym e) tt)

-- the rest of a record is passed over
pub walk_skip : (st : State) (at n : ℕ) (l : List ℕ) → n ≤ length l
    → walk st at n l ≡ walk st at 0 (drop n l)
unfolding walk
walk_skip st at zero [] h = refl
walk_skip st at zero (x ∷ l) h = refl
walk_skip st at (suc n) [] h = refl
walk_skip st at (suc n) (x ∷ l) h = walk_skip st at n l (omega arith)

-- what a record that is taken has shown
pub record Passed (st st' : State) (k : ℕ) (q : Bool) (vs : List ℤ) : Type 0 where
  pub comes : may_come st k ≡ true
  pub room : room_of st k ≡ None
  pub whole : q ≡ true
  pub ok : good_of k vs ≡ true
  pub next : Ok st' ≡ after_of st k vs

passed_go : (st st' : State) (k : ℕ) (q : Bool) (vs : List ℤ) (o : Bool) (p : Option Refusal)
    (r : Bool) → may_come st k ≡ o → room_of st k ≡ p → good_of k vs ≡ r
    → Ok st' ≡ cond o
    (on_room p (cond q (cond r (after_of st k vs) (Err OutOfRange)) (Err CutShort)))
    (Err OutOfOrder) → Passed st st' k q vs
passed_go st st' k true vs true None true d f g e =
    record { comes = d; room = f; whole = refl; ok = g; next = e }
passed_go st st' k true vs true None false d f g e = cc
passed_go st st' k false vs true None r d f g e = cc
passed_go st st' k q vs true (Some n) r d f g e = cc
passed_go st st' k q vs false p r d f g e = cc

pub passed : (st st' : State) (k : ℕ) (q : Bool) (vs : List ℤ) → Ok st' ≡ judge st k q vs
    → Passed st st' k q vs
unfolding judge take_of
passed st st' k q vs e =
    passed_go st st' k q vs (may_come st k) (room_of st k) (good_of k vs) refl refl refl e

-- a record at the front that is taken is whole
pub step_whole : (st st' : State) (l : List ℕ) → Ok st' ≡ step_of st l
    → body_of (get_or l 0 0) < length l
unfolding step_of
step_whole st st' l e =
    let k = get_or l 0 0 in
    ltb-true _ _ (passed st st' k (ltb (body_of k) (length l)) (numbers_of k l) e).whole

module _ (s : List ℕ) (st : State) (at : ℕ) where
  -- the walk at a place within the tape
  pub at_front : at < length s
      → walk st at 0 (drop at s) ≡ on_step (step_of st (drop at s)) at
      (λ st'. walk st' (at + 1 + body_of (get_or s at 0)) (body_of (get_or s at 0))
      (drop (suc at) s))
  unfolding walk
  at_front low = rw (drop-cons s at 0 low)

  -- w is what the walk is from the start on, and r what was read at the place
  pub walk_stop : (r : Result State Refusal) (n : Refusal) (w : Result State Refused) → r ≡ Err n
      → r ≡ step_of st (drop at s)
      → at < length s → walk st at 0 (drop at s) ≡ w → refused_at n at ≡ w
  walk_stop r n w o e low h = rw (at_front low, ← e, o) at h

  pub next_whole : (r : Result State Refusal) (n : ℕ) (st' : State) → r ≡ Ok st'
      → r ≡ step_of st (drop at s) → n ≡ body_of (get_or s at 0) → at + 1 + n ≤ length s
  next_whole r n st' o e b =
      let h : n < length (drop at s) =
      rw (b, ← head_drop at s) (step_whole st st' (drop at s) (sym o ∙ e)) in
      omega (arith, length-drop at s)

  pub walk_next : (r : Result State Refusal) (n : ℕ) (st' : State) (w : Result State Refused)
      → r ≡ Ok st' → r ≡ step_of st (drop at s) → n ≡ body_of (get_or s at 0)
      → at < length s → walk st at 0 (drop at s) ≡ w
      → walk st' (at + 1 + n) 0 (drop (at + 1 + n) s) ≡ w
  walk_next r n st' w o e b low h =
      let f : n ≤ length (drop (suc at) s) =
      omega (arith, length-drop (suc at) s, next_whole r n st' o e b) in
      let g : walk st' (suc at + n) n (drop (suc at) s) ≡ w =
      rw (at_front low, ← e, o, ← b, add-one) at h in
      rw (add-one, ← drop-drop n (suc at) s, ← walk_skip st' (suc at + n) n (drop (suc at) s) f) g

  at_end_lem : length s ≤ at
      → walk st at 0 (drop at s) ≡ cond (is_closed st.phase) (Ok st) (refused_at CutShort at)
  unfolding walk
  at_end_lem high = rw (drop_of_length-le s high)

  pub walk_closed : (w : Result State Refused) → length s ≤ at → walk st at 0 (drop at s) ≡ w
      → st.phase ≡ Closed → Ok st ≡ w
  walk_closed w high h p = sym (at_end_lem high ∙ rw p) ∙ h

  pub walk_open : (w : Result State Refused) → length s ≤ at → walk st at 0 (drop at s) ≡ w
      → is_closed st.phase ≡ false → refused_at CutShort at ≡ w
  walk_open w high h p = rw (at_end_lem high, p) at h
