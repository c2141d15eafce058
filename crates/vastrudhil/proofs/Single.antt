-- Any two outcomes that a promise of this crate allows coincide: the number, every number that is
-- stored, and every list that is left.
use Prim.Native.Nat.{ℕ}
use mathlib.Core.Path.{◌≡◌, sym, ◌∙◌, ap}
use mathlib.Core.Bool.{Bool}
use mathlib.Core.List.{List}
use lib.ListN.{length}
use lib.IntN.{ℤ, nat_abs}
use Rattle.answer.specs.Told.{ToldStep}
use Rattle.answer.proofs.Telling.{one_flag}
use Rattle.minutes.specs.Entry.{Table}
use Rattle.minutes.proofs.Single as minutes
use Rattle.records.specs.declared.Record.{Record}
use Rattle.tape.specs.Tape.{ToldReading}
use Rattle.desk.specs.Answer.{traversed_by, traversed_words_by}
use Rattle.vastrudhil.specs.Face.{TellsAmount, TellsCount, TellsVerdict, WritesRecord}
use Rattle.vastrudhil.specs.Face.{TellsReading, TellsTraverse, ShowsSheet}

-- ---- every arithmetic step, by what is stored of it
module _ (t : ToldStep) (m n : ℕ) where
  -- `vas_sine`, `vas_cosine`, `vas_sine_in`, `vas_cosine_in`, `vas_misclosure`, `vas_angle_share`,
  -- `vas_latitude`, `vas_departure`, `vas_latitude_in`, `vas_departure_in`, `vas_share` and
  -- `vas_doubled_area`
  pub amount_single : (v w : ℤ) → TellsAmount t v m → TellsAmount t w n → (m ≡ n) × (v ≡ w)
  amount_single v w x y = (x.number ∙ sym y.number, x.value ∙ sym y.value)

  -- `vas_sea_level`, `vas_combine`, `vas_grid`, `vas_from_mark`, `vas_onward`, `vas_balanced` and
  -- `vas_precision`
  pub count_single : (v w : ℕ) → TellsCount t v m → TellsCount t w n → (m ≡ n) × (v ≡ w)
  count_single v w x y = (x.number ∙ sym y.number, ap nat_abs (x.value ∙ sym y.value))

  -- `vas_closes_angles` and `vas_closes`
  pub verdict_single : (v w : Bool) → TellsVerdict t v m → TellsVerdict t w n → (m ≡ n) × (v ≡ w)
  verdict_single v w x y = (x.number ∙ sym y.number, one_flag v w (x.value ∙ sym y.value))

-- ---- the table of sines: `vas_table`
pub table_single : (t u : List ℕ) → Table t → Table u → t ≡ u
table_single = minutes.table_single

-- ---- the writers: `vas_write_row`, `vas_write_project`, `vas_write_start`, `vas_write_leg` and
-- `vas_write_close`
pub write_single : (given : Record) (out : List ℕ) (at : ℕ) (l m : List ℕ) (p q n p' q' n' : ℕ)
    → WritesRecord given out at l p q n → WritesRecord given out at m p' q' n'
    → (n ≡ n') × (p ≡ p') × (q ≡ q') × (l ≡ m)
write_single given out at l m p q n p' q' n' x y =
    let s = x.tells in
    let t = y.tells in (
      s.number ∙ sym t.number,
      s.place ∙ sym t.place,
      s.next ∙ sym t.next,
      x.left ∙ sym y.left,
    )

-- ---- the reading, the traverse and the sheet, the last two by any table of sines
-- `vas_read`
pub read_single : {A : Type 0} (t : ToldReading A) (p n q m : ℕ) → TellsReading t p n
    → TellsReading t q m → (n ≡ m) × (p ≡ q)
read_single t p n q m x y = (x.number ∙ sym y.number, x.place ∙ sym y.place)

-- `vas_traverse` and `vas_traverse_in`
pub traverse_single : (e : ℕ → ℤ) (tape : List ℕ) (words a b k l : List ℤ) (p n q m : ℕ)
    → TellsTraverse (traversed_by e tape (length words)) p k n → a ≡ traversed_words_by e tape words
    → TellsTraverse (traversed_by e tape (length words)) q l m → b ≡ traversed_words_by e tape words
    → (n ≡ m) × (p ≡ q) × (k ≡ l) × (a ≡ b)
traverse_single e tape words a b k l p n q m x f y g =
    let figures = x.figures ∙ sym y.figures in
    (x.number ∙ sym y.number, x.place ∙ sym y.place, figures, f ∙ sym g)

-- `vas_sheet` and `vas_sheet_in`
pub sheet_single : (e : ℕ → ℤ) (tape out l m : List ℕ) (p q n p' q' n' : ℕ)
    → ShowsSheet e tape out l p q n → ShowsSheet e tape out m p' q' n'
    → (n ≡ n') × (p ≡ p') × (q ≡ q') × (l ≡ m)
sheet_single e tape out l m p q n p' q' n' x y =
    let s = x.tells in
    let t = y.tells in (
      s.number ∙ sym t.number,
      s.place ∙ sym t.place,
      s.used ∙ sym t.used,
      x.left ∙ sym y.left,
    )
