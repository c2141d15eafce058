-- A record at a place of the tape. The first test that it fails gives the refusal, and one that
-- passes all leaves the reading from after it on, whatever its kind; then, kind by kind, what the
-- reader's functions find.
use Prim.Native.Nat.{ℕ, ◌+◌, ◌-◌, ◌≤◌, ◌<◌}
use native.Mathlib.Decide.{dec_lt, ℕ_discrete}
use native.Mathlib.Omega.{arith}
use mathlib.Core.Path.{◌≡◌, refl, sym, ◌∙◌}
use mathlib.Core.List.{List, [], ◌∷◌}
use mathlib.Core.Logic.{⊎_elim}
use mathlib.Core.Bool.{Bool, true, false, cond, ◌&&◌, ◌||◌, or-true}
use lib.Dec.{eqb, ltb, leb}
use lib.IntN.{ℤ, pos}
use lib.ListN.{length, get_or, drop, length-drop, get_or-eq_default}
use borrow.Author.Tests.{ltb-false, eqb-true, lt-ltb, le-ltb, eq-eqb, ne_eqb}
use Rattle.std.specs.Prelude.{Some, None, Result, Ok, Err}
use Rattle.answer.specs.declared.Refusal.{Refusal}
use Rattle.answer.specs.declared.Refusal.TheVariants.{CutShort, OutOfOrder, OutOfRange, BadRows}
use Rattle.answer.specs.declared.Refusal.TheVariants.{TooManyLegs, NoRow}
use Rattle.answer.specs.declared.Refused.{Refused}
use Rattle.records.specs.Bytes.{two, four, num, meant, twos_complement}
use Rattle.records.specs.Record.{body_of, numbers_of, kind_fields, table, good_of}
use Rattle.tape.specs.Tape.{is_leg, with_row, with_leg, may_come, room_of, row_next}
use Rattle.tape.specs.Tape.{project_next, after_of, take_of, judge, step_of, refused_at, is_closed}
use Rattle.tape.specs.Passing.{cursor, reading_from, past, past_row, past_leg, InLine, Passes}
use Rattle.tape.specs.Passing.{due_of}
use Rattle.tape.specs.Passing.{good_there}
use Rattle.tape.specs.declared.Phase.TheVariants.{AtRows, AfterProject, LineBegun, AfterLeg, Closed}
use Rattle.tape.specs.declared.State.{State}
use Rattle.tape.specs.declared.order.Cursor.{Cursor}
use Rattle.tape.proofs.Picks.{by_leg, leg_apart}
use Rattle.tape.proofs.Numbers.{head_drop, num_drop}
use Rattle.tape.proofs.Walk.{no as never, walk_stop, walk_next, walk_open}

-- past the end of the tape none is a leg
pub none_past : (i : ℕ) (s : List ℕ) → length s ≤ i → false ≡ is_leg (get_or s i 0)
none_past i s high = rw (get_or-eq_default s 0 {n = i} high)

module _ (s : List ℕ) (c : Cursor) where
  abbrev st : State
  st = c.st

  abbrev at : ℕ
  at = c.at

  abbrev step : Result State Refusal
  step = step_of st (drop at s)

  -- a refusal of the record here
  abbrev pub here : Refusal → Refused
  here n = record { refusal = n; place = at }

  -- ---- refused, or passed to another cursor
  stays : (d : Cursor) (n : Refusal) (x : Refused) → x ≡ here n
      → reading_from s c ≡ refused_at n at → Passes s c d (Err x)
  stays d n x y e = record { same = rw y e; to = λ b f. cc }

  pub fails : (d : Cursor) (n : Refusal) (x : Refused) → x ≡ here n → at < length s → step ≡ Err n
      → Passes s c d (Err x)
  fails d n x y low e = stays d n x y (sym (walk_stop s st at (Err n) n _ refl (sym e) low refl))

  passes : (d : Cursor) (u : State) (b : ℕ) → d ≡ cursor b u → at < length s
      → b ≡ at + 1 + body_of (get_or s at 0) → step ≡ Ok u
      → Passes s c (cursor b u) (Ok d)
  passes d u b y low f e =
      record {
        same = rw (y, f) (sym (walk_next s st at (Ok u) _ u _ refl (sym e) refl low refl));
        to = λ b f. cc;
      }

  -- ---- the tests of a record of kind k
  module _ (k : ℕ) (is : get_or s at 0 ≡ k) where
    pub other_kind : may_come st k ≡ false → step ≡ Err OutOfOrder
    unfolding step_of judge
    other_kind m = rw (head_drop at s, is, m)

    pub one_too_many : may_come st k ≡ true → (n : Refusal) → room_of st k ≡ Some n → step ≡ Err n
    unfolding step_of judge take_of
    one_too_many comes n r = rw (head_drop at s, is, comes, r)

    pub cut_short_lem : may_come st k ≡ true → room_of st k ≡ None → length s - at ≤ body_of k
        → step ≡ Err CutShort
    unfolding step_of judge take_of
    cut_short_lem comes room h =
        rw (head_drop at s, is, comes, room, length-drop at s, le-ltb (body_of k) (length s - at) h)

  -- one that may come, and that there is room for
  record Due (k : ℕ) : Type 0 where
    low : at < length s
    is : get_or s at 0 ≡ k
    comes : may_come st k ≡ true
    room : room_of st k ≡ None

  -- whether it is whole, as the code tests it
  module _ (k : ℕ) (d : Due k) (w : Bool) (j : w ≡ ltb (body_of k) (length s - at)) where
    short : (to : Cursor) (x : Refused) → x ≡ here CutShort → w ≡ false → Passes s c to (Err x)
    short to x y f =
        fails to CutShort x y d.low
        (cut_short_lem k d.is d.comes d.room (ltb-false (body_of k) _ (sym j ∙ f)))

    -- whole, with the numbers vs
    module _ (vs : List ℤ) (g : Bool) (whole : w ≡ true) (v : numbers_of k (drop at s) ≡ vs)
        (e : g ≡ good_of k vs) where
      judged : step ≡ cond g (after_of st k vs) (Err OutOfRange)
      unfolding step_of judge take_of
      judged =
          rw (head_drop at s, d.is, d.comes, d.room, length-drop at s, ← j, whole, v, ← e)

      bad : (to : Cursor) (x : Refused) → x ≡ here OutOfRange → g ≡ false → Passes s c to (Err x)
      bad to x y t = fails to OutOfRange x y d.low (judged ∙ rw t)

      unfit : (to : Cursor) (n : Refusal) (x : Refused) → x ≡ here n → g ≡ true
          → after_of st k vs ≡ Err n → Passes s c to (Err x)
      unfit to n x y t f = fails to n x y d.low (judged ∙ rw t f)

      taken : (to : Cursor) (u : State) (b : ℕ) → to ≡ cursor b u → g ≡ true
          → after_of st k vs ≡ Ok u → b ≡ at + 1 + body_of k → Passes s c (cursor b u) (Ok to)
      taken to u b y t f h = passes to u b y d.low (rw d.is h) (judged ∙ rw t f)

  -- ---- where one kind alone may stand: the end of the tape, another record, or one of the kind
  module _ (k : ℕ) (q : Result (Unit {0}) Refused) (e : q ≡ due_of s at k) where
    not_due : (to : Cursor) (x : Refused) → q ≡ Err x → is_closed st.phase ≡ false
        → ((get_or s at 0 ≡ k → ⊥) → may_come st (get_or s at 0) ≡ false)
        → Passes s c to (Err x)
    not_due to x y p alone =
        elim (dec_lt at (length s)) [
          | yes low ↦ elim (ℕ_discrete (get_or s at 0) k) [
            | yes i ↦
                let f = rw (lt-ltb at (length s) low, eq-eqb (get_or s at 0) k i) at e in cc
            | no i ↦
                let f = rw (lt-ltb at (length s) low, ne_eqb (get_or s at 0) k i) at e in
                fails to OutOfOrder x (cc) low (other_kind (get_or s at 0) refl (alone i))
          ]
          | no high ↦
              let f = rw (le-ltb at (length s) (omega arith)) at e in
              stays to CutShort x (cc) (sym (walk_open s st at _ (omega arith) refl p))
        ]

    stands : {u : Unit {0}} → q ≡ Ok u → (at < length s) × (get_or s at 0 ≡ k)
    stands z =
        elim (dec_lt at (length s)) [
          | yes low ↦ elim (ℕ_discrete (get_or s at 0) k) [
            | yes i ↦ (low, i)
            | no i ↦
                let f = rw (lt-ltb at (length s) low, ne_eqb (get_or s at 0) k i) at e in cc
          ]
          | no high ↦ let f = rw (le-ltb at (length s) (omega arith)) at e in cc
        ]

    is_due : {u : Unit {0}} → q ≡ Ok u → may_come st k ≡ true → room_of st k ≡ None → Due k
    is_due z comes room =
        record { low = (stands z).0; is = (stands z).1; comes = comes; room = room }

  -- ---- a row
  pub row_comes : st.phase ≡ AtRows → may_come st 5 ≡ true
  unfolding may_come
  row_comes p = rw p

  module _ (is : get_or s at 0 ≡ 5) (fits : at + (1 + body_of 5) ≤ length s)
      (p : st.phase ≡ AtRows) (few : st.rows < 600) (minute factor : ℕ) (g : Bool)
      (m : minute ≡ num two s (at + 1)) (f : factor ≡ num four s (at + 3))
      (e : g ≡ good_of 5 (pos minute ∷ pos factor ∷ [])) where
    row_due : Due 5
    unfolding room_of
    row_due =
        record {
          low = omega arith;
          is = is;
          comes = row_comes p;
          room = rw (lt-ltb st.rows 600 few);
        }

    row_whole : true ≡ ltb (body_of 5) (length s - at)
    row_whole = sym (lt-ltb (body_of 5) (length s - at) (omega arith))

    row_numbers : numbers_of 5 (drop at s) ≡ pos minute ∷ pos factor ∷ []
    unfolding numbers_of kind_fields table meant
    row_numbers = rw (num_drop two at s 1, num_drop four at s 3, ← m, ← f)

    module _ (n : ℕ) (long : n ≡ 1 + body_of 5) (t : g ≡ true) where
      row_passes : (eqb st.rows 0 || eqb minute st.next) ≡ true
          → Passes s c (past_row s c) (Ok (cursor (at + n) (with_row st minute)))
      unfolding after_of row_next
      row_passes o =
          taken 5 row_due true row_whole _ g refl row_numbers e _
          (with_row st (num two s (at + 1))) (at + (1 + body_of 5)) (rw (m, long)) t (rw (o, m))
          (omega arith)

      pub row_first : st.rows ≡ 0
          → Passes s c (past_row s c) (Ok (cursor (at + n) (with_row st minute)))
      row_first z = row_passes (rw (eq-eqb st.rows 0 z))

      pub row_next_lem : minute ≡ st.next
          → Passes s c (past_row s c) (Ok (cursor (at + n) (with_row st minute)))
      row_next_lem z = row_passes (rw (eq-eqb minute st.next z, or-true))

    module _ (x : Refused) where
      pub row_out : x ≡ here BadRows → g ≡ true → (st.rows ≡ 0 → ⊥) → (minute ≡ st.next → ⊥)
          → Passes s c (past_row s c) (Err x)
      unfolding after_of row_next
      row_out w t y z =
          unfit 5 row_due true row_whole _ g refl row_numbers e _ BadRows x w t
          (rw (ne_eqb st.rows 0 y, ne_eqb minute st.next z))

      pub row_bad : x ≡ here OutOfRange → g ≡ false → Passes s c (past_row s c) (Err x)
      row_bad w t = bad 5 row_due true row_whole _ g refl row_numbers e _ x w t

  -- ---- the project
  module _ (q : Result (Unit {0}) Refused) (e : q ≡ due_of s at 1)
      (p : st.phase ≡ AtRows) where
    abbrev project_after : Cursor
    project_after = past c (1 + body_of 1) AfterProject

    pub no_project : (r : Result Cursor Refused) (x : Refused) → r ≡ Err x → q ≡ Err x
        → (get_or s at 0 ≡ 5 → ⊥) → Passes s c project_after r
    unfolding may_come
    no_project r x f h none =
        rw f (not_due 1 q e project_after x h (rw p)
        (λ i. rw (p, ne_eqb (get_or s at 0) 5 none, ne_eqb (get_or s at 0) 1 i)))

    module _ {z : Unit {0}} (is : q ≡ Ok z) (w : Bool)
        (j : w ≡ ltb (body_of 1) (length s - at)) where
      project_due : Due 1
      unfolding may_come room_of
      project_due = is_due 1 q e is (rw p) refl

      pub project_short : (x : Refused) → x ≡ here CutShort → w ≡ false
          → Passes s c project_after (Err x)
      project_short x y h = short 1 project_due w j project_after x y h

      module _ (whole : w ≡ true) (latitude : ℕ) (elevation : ℤ) (g : Bool)
          (l : latitude ≡ num two s (at + 1))
          (f : elevation ≡ meant twos_complement two (num two s (at + 3)))
          (i : g ≡ good_of 1 (pos latitude ∷ elevation ∷ [])) where
        project_numbers : numbers_of 1 (drop at s) ≡ pos latitude ∷ elevation ∷ []
        unfolding numbers_of kind_fields table meant
        project_numbers = rw (num_drop two at s 1, num_drop two at s 3, ← l, ← f)

        pub project_bad : (x : Refused) → x ≡ here OutOfRange → g ≡ false
            → Passes s c project_after (Err x)
        project_bad x y t =
            bad 1 project_due w j _ g whole project_numbers i project_after x y t

        -- whether a row has the latitude, as the code tests it
        module _ (has : Bool) (h : has ≡ (ltb latitude st.next && leb (st.next - latitude) st.rows))
            (t : g ≡ true) where
          pub no_row : (x : Refused) → x ≡ here NoRow → has ≡ false
              → Passes s c project_after (Err x)
          unfolding after_of project_next
          no_row x y n =
              unfit 1 project_due w j _ g whole project_numbers i project_after NoRow x y t
              (rw (← h, n))

          pub project_passes : (to : Cursor) → to ≡ project_after → has ≡ true
              → Passes s c project_after (Ok to)
          unfolding after_of project_next
          project_passes to y n =
              taken 1 project_due w j _ g whole project_numbers i to _ _ y t (rw (← h, n))
              (omega arith)

  -- ---- the start
  module _ (q : Result (Unit {0}) Refused) (e : q ≡ due_of s at 2)
      (p : st.phase ≡ AfterProject) where
    abbrev start_after : Cursor
    start_after = past c (1 + body_of 2) LineBegun

    pub no_start : (r : Result Cursor Refused) (x : Refused) → r ≡ Err x → q ≡ Err x
        → Passes s c start_after r
    unfolding may_come
    no_start r x f h =
        rw f (not_due 2 q e start_after x h (rw p) (λ i. rw (p, ne_eqb (get_or s at 0) 2 i)))

    module _ {z : Unit {0}} (is : q ≡ Ok z) (w : Bool)
        (j : w ≡ ltb (body_of 2) (length s - at)) where
      start_due : Due 2
      unfolding may_come room_of
      start_due = is_due 2 q e is (rw p) refl

      pub start_short : (x : Refused) → x ≡ here CutShort → w ≡ false
          → Passes s c start_after (Err x)
      start_short x y h = short 2 start_due w j start_after x y h

      module _ (whole : w ≡ true) (northing easting mark : ℕ) (g : Bool)
          (x : northing ≡ num four s (at + 1)) (y : easting ≡ num four s (at + 5))
          (m : mark ≡ num four s (at + 9))
          (i : g ≡ good_of 2 (pos northing ∷ pos easting ∷ pos mark ∷ [])) where
        start_numbers : numbers_of 2 (drop at s) ≡ pos northing ∷ pos easting ∷ pos mark ∷ []
        unfolding numbers_of kind_fields table meant
        start_numbers =
            rw (num_drop four at s 1, num_drop four at s 5, num_drop four at s 9, ← x, ← y, ← m)

        pub start_bad : (v : Refused) → v ≡ here OutOfRange → g ≡ false
            → Passes s c start_after (Err v)
        start_bad v n t = bad 2 start_due w j _ g whole start_numbers i start_after v n t

        pub start_passes : (to : Cursor) → to ≡ start_after → g ≡ true
            → Passes s c start_after (Ok to)
        unfolding after_of
        start_passes to n t =
            taken 2 start_due w j _ g whole start_numbers i to _ _ n t refl (omega arith)

  -- ---- a leg, of any kind
  abbrev kind : ℕ
  kind = get_or s at 0

  module _ (here_is : is_leg kind ≡ true) (p : InLine st) where
    pub leg_low : at < length s
    leg_low =
        elim (dec_lt at (length s)) [
          | yes low ↦ low
          | no high ↦ never (none_past at s (omega arith) ∙ here_is)
        ]

    leg_comes : may_come st kind ≡ true
    unfolding may_come
    leg_comes =
        ⊎_elim (λ (q : st.phase ≡ LineBegun). rw (q, here_is))
        (λ (q : st.phase ≡ AfterLeg). rw (q, here_is)) p

    pub leg_full : (x : Refused) → x ≡ here TooManyLegs → 64 ≤ st.legs
        → Passes s c (past_leg s c) (Err x)
    unfolding room_of
    leg_full x y h =
        fails (past_leg s c) TooManyLegs x y leg_low
        (one_too_many kind refl leg_comes TooManyLegs
        (rw (leg_apart kind 5 here_is refl, here_is, le-ltb st.legs 64 h)))

    leg_after : (vs : List ℤ) → after_of st kind vs ≡ Ok (with_leg st)
    unfolding after_of
    leg_after vs =
        rw (
          leg_apart kind 5 here_is refl,
          leg_apart kind 1 here_is refl,
          leg_apart kind 2 here_is refl,
          here_is,
        )

    -- its length, as the code has it
    pub leg_long : body_of 3 ≡ body_of kind
    leg_long = by_leg (λ k. body_of 3 ≡ body_of k) refl kind here_is

    module _ (few : st.legs < 64) (w : Bool) (j : w ≡ ltb (body_of 3) (length s - at)) where
      leg_due : Due kind
      unfolding room_of
      leg_due =
          record {
            low = leg_low;
            is = refl;
            comes = leg_comes;
            room = rw (leg_apart kind 5 here_is refl, here_is, lt-ltb st.legs 64 few);
          }

      leg_test : w ≡ ltb (body_of kind) (length s - at)
      leg_test = rw (← leg_long) j

      pub leg_short : (x : Refused) → x ≡ here CutShort → w ≡ false
          → Passes s c (past_leg s c) (Err x)
      leg_short x y h = short kind leg_due w leg_test (past_leg s c) x y h

      module _ (whole : w ≡ true) (g : Bool) (e : g ≡ good_there s at) where
        pub leg_bad : (x : Refused) → x ≡ here OutOfRange → g ≡ false
            → Passes s c (past_leg s c) (Err x)
        leg_bad x y t = bad kind leg_due w leg_test _ g whole refl e (past_leg s c) x y t

        pub leg_passes : g ≡ true → Passes s c (past_leg s c) (Ok (past_leg s c))
        leg_passes t =
            taken kind leg_due w leg_test _ g whole refl e _ (with_leg st) _ refl t (leg_after _)
            refl

  -- ---- the close
  module _ (q : Result (Unit {0}) Refused) (e : q ≡ due_of s at 4)
      (line : InLine st) where
    abbrev close_after : Cursor
    close_after = past c (1 + body_of 4) Closed

    pub no_close : (r : Result Cursor Refused) (x : Refused) → r ≡ Err x → q ≡ Err x
        → is_leg (get_or s at 0) ≡ false → Passes s c close_after r
    unfolding may_come
    no_close r x f h none =
        ⊎_elim
        (λ (p : st.phase ≡ LineBegun).
        rw f (not_due 4 q e close_after x h (rw p) (λ i. rw (p, none))))
        (λ (p : st.phase ≡ AfterLeg).
        rw f (not_due 4 q e close_after x h (rw p)
        (λ i. rw (p, none, ne_eqb (get_or s at 0) 4 i))))
        line

    module _ {z : Unit {0}} (is : q ≡ Ok z) where
      pub close_early : (x : Refused) → x ≡ here OutOfOrder → st.phase ≡ LineBegun
          → Passes s c close_after (Err x)
      unfolding may_come
      close_early x y p =
          fails close_after OutOfOrder x y (stands 4 q e is).0
          (other_kind 4 (stands 4 q e is).1 (rw p))

      module _ (some : st.phase ≡ LineBegun → ⊥) (w : Bool)
          (j : w ≡ ltb (body_of 4) (length s - at)) where
        close_comes : may_come st 4 ≡ true
        unfolding may_come
        close_comes =
            ⊎_elim (λ (p : st.phase ≡ LineBegun). absurd (some p))
            (λ (p : st.phase ≡ AfterLeg). rw p) line

        close_due : Due 4
        unfolding room_of
        close_due = is_due 4 q e is close_comes refl

        pub close_short : (x : Refused) → x ≡ here CutShort → w ≡ false
            → Passes s c close_after (Err x)
        close_short x y h = short 4 close_due w j close_after x y h

        module _ (whole : w ≡ true) (angle northing easting mark : ℕ) (g : Bool)
            (a : angle ≡ num four s (at + 1)) (x : northing ≡ num four s (at + 5))
            (y : easting ≡ num four s (at + 9)) (m : mark ≡ num four s (at + 13))
            (i : g ≡ good_of 4 (pos angle ∷ pos northing ∷ pos easting ∷ pos mark ∷ [])) where
          close_numbers : numbers_of 4 (drop at s)
              ≡ pos angle ∷ pos northing ∷ pos easting ∷ pos mark ∷ []
          unfolding numbers_of kind_fields table meant
          close_numbers =
              rw (
                num_drop four at s 1,
                num_drop four at s 5,
                num_drop four at s 9,
                num_drop four at s 13,
                ← a,
                ← x,
                ← y,
                ← m,
              )

          pub close_bad : (v : Refused) → v ≡ here OutOfRange → g ≡ false
              → Passes s c close_after (Err v)
          close_bad v n t = bad 4 close_due w j _ g whole close_numbers i close_after v n t

          pub close_passes : (to : Cursor) → to ≡ close_after → g ≡ true
              → Passes s c close_after (Ok to)
          unfolding after_of
          close_passes to n t =
              taken 4 close_due w j _ g whole close_numbers i to _ _ n t refl (omega arith)

-- ---- the numbers of a leg, as the code tests them
module _ (s : List ℕ) (at : ℕ) (here : is_leg (get_or s at 0) ≡ true) where
  pub leg_room : body_of (get_or s at 0) < length s - at → (i : ℕ) → i ≤ 5 → at + i + 4 ≤ length s
  unfolding body_of kind_fields table
  leg_room h i low =
      let P : ℕ → Type 0 = λ k. body_of k < length s - at → 8 < length s - at in
      let whole = by_leg P (λ x. x) (get_or s at 0) here h in
      omega arith

  pub leg_there : (g : Bool) (angle distance : ℕ) → angle ≡ num four s (at + 1)
      → distance ≡ num four s (at + 5) → g ≡ good_of 3 (pos angle ∷ pos distance ∷ [])
      → g ≡ good_there s at
  unfolding numbers_of kind_fields table meant
  leg_there g angle distance a d e =
      e ∙ rw (eqb-true (get_or s at 0) 3 here, num_drop four at s 1, num_drop four at s 5, ← a, ← d)
