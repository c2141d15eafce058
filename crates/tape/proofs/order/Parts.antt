-- The parts of a tape. Rows follow each other before an end that is known at the start, so that
-- each place is so many rows on; legs follow each other record by record; and after the close
-- nothing may stand. That the parts follow each other the check finds from what each promises.
use Prim.Native.Nat.{ℕ, min, ◌+◌, ◌-◌, ◌*◌, ◌≤◌, ◌<◌}
use native.Mathlib.Decide.{dec_lt}
use native.Mathlib.Omega.{arith}
use mathlib.Core.Path.{◌≡◌, refl, sym, ◌∙◌}
use mathlib.Core.List.{List}
use mathlib.Core.Bool.{Bool, true, false, cond}
use lib.Dec.{eqb, ltb}
use lib.ListN.{length, get_or}
use borrow.Author.Tests.{lt-ltb, le-ltb, eq-eqb, eqb-true}
use Rattle.std.specs.Prelude.{Result, Ok, Err}
use Rattle.answer.specs.declared.Refusal.TheVariants.{CutShort, OutOfOrder, BadRows}
use Rattle.answer.specs.declared.Refused.{Refused}
use Rattle.records.specs.Record.{body_of}
use Rattle.tape.specs.Tape.{may_come, room_of, start, reading_of}
use Rattle.tape.specs.Passing.{cursor, reading_from, Passes}
use Rattle.tape.specs.Passing.{InLine, Rowed}
use Rattle.tape.specs.declared.Phase.TheVariants.{AtRows, Closed}
use Rattle.tape.specs.declared.order.Cursor.{Cursor}
use Rattle.tape.proofs.Walk.{no as never, walk_stop, walk_closed}
use Rattle.tape.proofs.order.Passing.{here, fails, other_kind, one_too_many, cut_short_lem}
use Rattle.tape.proofs.order.Passing.{row_comes}

-- ---- whether a row stands before an end
module _ (s : List ℕ) (at end : ℕ) (r : Bool)
    (e : r ≡ cond (ltb at end) (eqb (get_or s at 0) 5) false) where
  stands : r ≡ true → (at < end) × (get_or s at 0 ≡ 5)
  stands t =
      elim (dec_lt at end) [
        | yes h ↦ (h, eqb-true (get_or s at 0) 5 (sym (rw (lt-ltb at end h) at e) ∙ t))
        | no h ↦ never (sym (rw (le-ltb at end (omega arith)) at e) ∙ t)
      ]

  -- none does: one that stands there is after the end
  none_stands : r ≡ false → get_or s at 0 ≡ 5 → end ≤ at
  none_stands f i =
      elim (dec_lt at end) [
        | yes h ↦ never (sym f ∙ rw (lt-ltb at end h, eq-eqb (get_or s at 0) 5 i) at e)
        | no h ↦ omega arith
      ]

-- ---- rows in a run: so many are read, seven bytes each, and they stand before the end that the
-- limit and the tape leave them
pub record Along (s : List ℕ) (end : ℕ) (c : Cursor) : Type 0 where
  pub place : c.at ≡ 7 * c.st.rows
  pub inside : end ≤ length s - 6
  pub few : end ≤ 4200
  pub last : end < 4200 → end ≡ length s - 6
  pub phase : c.st.phase ≡ AtRows
  pub same : reading_of s ≡ reading_from s c

pub rows_begin : (s : List ℕ) (end fits row most : ℕ) → fits ≡ length s - body_of 5
    → row ≡ 1 + body_of 5 → most ≡ 600 * row → end ≡ min fits most
    → Along s end (cursor 0 start)
unfolding reading_of body_of
rows_begin s end fits row most b r m e =
    record {
      place = refl;
      inside = omega arith;
      few = omega arith;
      last = λ i. omega arith;
      phase = refl;
      same = refl;
    }

module _ (s : List ℕ) (end : ℕ) (c : Cursor) (a : Along s end c) where
  -- a refusal at the cursor ends the run
  ended : (x : Refused) → reading_from s c ≡ Err x → Rowed s (Err x)
  ended x e = record { same = a.same ∙ e; phase = λ d f. cc; none = λ d f. cc }

  -- one after the end is cut short or one too many
  module _ (r : Bool) (e : r ≡ cond (ltb c.at end) (eqb (get_or s c.at 0) 5) false) (f : r ≡ false)
      (q : Bool) (g : q ≡ cond (ltb c.at (length s)) (eqb (get_or s c.at 0) 5) false)
      (t : q ≡ true) (x : Refused) where
    beyond : (c.at < length s) × (get_or s c.at 0 ≡ 5)
    beyond = stands s c.at (length s) q g t

    pub rows_cut : x ≡ here s c CutShort → c.st.rows < 600 → Rowed s (Err x)
    unfolding room_of body_of
    rows_cut y l =
        let h = none_stands s c.at end r e f beyond.1 in
        ended x (fails s c c CutShort x y beyond.0
        (cut_short_lem s c 5 beyond.1 (row_comes s c a.phase) (rw (lt-ltb c.st.rows 600 l))
        (omega (arith, a.place, a.last (omega (arith, a.place)))))).same

    pub rows_full : x ≡ here s c BadRows → 600 ≤ c.st.rows → Rowed s (Err x)
    unfolding room_of
    rows_full y l =
        ended x (fails s c c BadRows x y beyond.0
        (one_too_many s c 5 beyond.1 (row_comes s c a.phase) BadRows
        (rw (le-ltb c.st.rows 600 l)))).same

-- ---- legs, one after the other: the reading from the first leg on is that from the cursor
pub record Lining (s : List ℕ) (first c : Cursor) : Type 0 where
  pub line : InLine c.st
  pub same : reading_from s first ≡ reading_from s c

-- ---- after the close nothing may stand
module _ (s : List ℕ) (c to : Cursor) (q : Result Cursor Refused) (h : Passes s c to q)
    (shut : to.st.phase ≡ Closed) (d : Cursor) (e : q ≡ Ok d) where
  goes : reading_from s c ≡ reading_from s d
  goes = h.same ∙ rw e

  phase_is : d.st.phase ≡ Closed
  phase_is = rw (h.to d e) shut

  pub more_after : (x : Refused) → x ≡ here s d OutOfOrder → d.at < length s
      → Err x ≡ reading_from s c
  unfolding may_come
  more_after x y low =
      rw y (walk_stop s d.st d.at (Err OutOfOrder) OutOfOrder _ refl
      (sym (other_kind s d (get_or s d.at 0) refl (rw phase_is))) low (sym goes))

  pub all_read : length s ≤ d.at → Ok d.st ≡ reading_from s c
  all_read high = walk_closed s d.st d.at _ high (sym goes) phase_is
