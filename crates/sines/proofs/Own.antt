-- The entries of a table: each is a natural number of at most a billion, so that no sine is above
-- 1, in the rules' table and in any that is lent; and the desk's own table, lent, has the rules'
-- entries.
use mathlib.Core.Path.{◌≡◌, refl, sym, ◌∙◌, ap, fun_ext}
use mathlib.Core.List.{List}
use Prim.Native.Nat.{ℕ, ◌+◌, ◌*◌, ◌/◌, ◌%◌, ◌≤◌, ◌<◌, min}
use native.Mathlib.Decide.{dec_le, ℕ_discrete}
use native.Mathlib.Omega.{arith}
use native.Mathlib.Nat.{min-eq_left, min-le_right}
use borrow.Author.Tests.{le-leb, lt-leb}
use lib.ListN.{get_or}
use lib.IntN.{ℤ, pos, nat_abs}
use Rattle.std.proofs.Common.{Result}
use Rattle.answer.specs.Told.{told_amount}
use Rattle.answer.specs.declared.OutOfRange.{OutOfRange}
use Rattle.whole.specs.declared.Whole.{Whole}
use Rattle.minutes.specs.Quadrant.{circle, folded}
use Rattle.minutes.specs.Entry.{Table, entry, last_minute}
use Rattle.minutes.specs.Exact.{nine_decimals}
use Rattle.minutes.proofs.Entries.{entry_is}
use Rattle.sines.specs.Sine.{between, quarter_by, entry_in, sine_by, cosine_by, of_angle}
use Rattle.sines.proofs.Line.{at_minute, from_minute, between_most}
use Rattle.sines.proofs.Quadrants.{folded_most, size_is}

-- ---- the entries, by the rule and in any lent table
pub record Entries (e : ℕ → ℤ) : Type 0 where
  pub each : (m : ℕ) → m ≤ last_minute → (n : ℕ) × (e m ≡ pos n) × (n ≤ nine_decimals)

pub rule_entries : Entries entry
rule_entries = record { each = entry_is }

-- ---- of a lent table: the entries up to 90 degrees are its own, and count up to 1
module _ (t : List ℕ) (m : ℕ) where
  entry_there : m ≤ last_minute → entry_in t m ≡ pos (min (get_or t m 0) nine_decimals)
  unfolding entry_in
  entry_there h = rw (le-leb m last_minute h)

  past_last : last_minute < m → entry_in t m ≡ entry m
  unfolding entry_in
  past_last h = rw (lt-leb m last_minute h)

pub lent_entries : (t : List ℕ) → Entries (entry_in t)
lent_entries t =
    record {
      each = λ m h. (
        min (get_or t m 0) nine_decimals,
        entry_there t m h,
        min-le_right (get_or t m 0) nine_decimals,
      );
    }

-- the entries of the desk's own table are the rules'
pub own_entries : (t : List ℕ) → Table t → entry_in t ≡ entry
own_entries t right = fun_ext same
  where
    same : (m : ℕ) → entry_in t m ≡ entry m
    same m =
        elim (dec_le m last_minute) [
          | yes h ↦
              let e = entry_is m h in
              let f : get_or t m 0 ≡ e.0 = ap nat_abs (right.each m h ∙ e.1) in
              let least = min-eq_left {n = e.0} {m = nine_decimals} e.2 in
              entry_there t m h ∙ rw (f, least) (sym e.1)
          | no h ↦ past_last t m (omega arith)
        ]

-- ---- the line between two entries as the code takes them
pub lent_line : (m r x y v : ℕ) → pos v ≡ between (pos x) (pos y) r
    → (t : List ℕ) → x ≡ min (get_or t m 0) nine_decimals
    → y ≡ min (get_or t (m + 1) 0) nine_decimals
    → m < last_minute
    → pos v ≡ between (entry_in t m) (entry_in t (m + 1)) r
lent_line m r x y v g t e f h =
    rw (entry_there t m (omega arith), entry_there t (m + 1) (omega arith), ← e, ← f) g

-- and the sine of an angle, r tenths past minute m
pub lent_quarter : (t : List ℕ) (a m r v : ℕ) → a ≡ 600 * m + r → r ≤ 600
    → pos v ≡ between (entry_in t m) (entry_in t (m + 1)) r → pos v ≡ quarter_by (entry_in t) a
lent_quarter t a m r v past h g = g ∙ sym (from_minute (entry_in t) a m r past h)

-- ---- so what the desk's own table tells is the rules'
module _ (t : List ℕ) (right : Table t) (a : ℕ) (r : Result Whole OutOfRange) where
  pub own_sine : told_amount r ≡ of_angle a (sine_by (entry_in t) a)
      → told_amount r ≡ of_angle a (sine_by entry a)
  own_sine g = g ∙ ap (λ (e : ℕ → ℤ). of_angle a (sine_by e a)) (own_entries t right)

  pub own_cosine : told_amount r ≡ of_angle a (cosine_by (entry_in t) a)
      → told_amount r ≡ of_angle a (cosine_by entry a)
  own_cosine g = g ∙ ap (λ (e : ℕ → ℤ). of_angle a (cosine_by e a)) (own_entries t right)

-- ---- no sine is above 1
module _ (e : ℕ → ℤ) (entries : Entries e) where
  pub quarter_size : (a : ℕ) → a ≤ 3240000 → (n : ℕ) × (quarter_by e a ≡ pos n)
      × (n ≤ nine_decimals)
  unfolding quarter_by
  quarter_size a h =
      let x = entries.each (a / 600) (omega arith) in
      elim (ℕ_discrete (a % 600) 0) [
        | yes z ↦ (
          x.0,
          ap (between (e (a / 600)) (e (a / 600 + 1))) z ∙ at_minute (e (a / 600))
              (e (a / 600 + 1)) ∙ x.1,
          x.2,
        )
        | no z ↦
            let y = entries.each (a / 600 + 1) (omega arith) in
            let l = between_most x.0 y.0 (a % 600) nine_decimals (omega arith) x.2 y.2 in
            (l.0, rw (x.1, y.1) l.1, l.2)
      ]

  pub sine_size : (a : ℕ) → a < circle → nat_abs (sine_by e a) ≤ nine_decimals
  sine_size a h =
      let q = quarter_size (folded a) (folded_most a h) in
      rw (← size_is e a (folded a) q.0 refl (sym q.1)) q.2
