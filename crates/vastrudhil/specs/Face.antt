-- docs/RULES.md, "Definitions that state no rule": what the C functions tell, in the definitions of
-- the rules. Everywhere n is the number that is returned: of the refusal, or 0.
use Rattle.std.specs.Prelude.{ℕ, ◌≡◌, Bool, List, [], ◌∷◌, length, ℤ, pos, Option, Some, None}
use Rattle.answer.specs.Refusal.{number_of}
use Rattle.answer.specs.declared.Refused.{Refused}
use Rattle.answer.specs.Told.{ToldStep, passes}
use Rattle.records.specs.declared.Record.{Record}
use Rattle.records.specs.Record.{good_record, bytes_of_record}
use Rattle.tape.specs.Tape.{ToldReading}
use Rattle.writer.specs.Write.{ToldWritten, told_written, answer_of, left_of}
use Rattle.desk.specs.Answer.{ToldTraverse}
use Rattle.desk.specs.Sheet.{ToldSheet, paged, paged_bytes}

-- ---- a step: v is the value that is stored, and f the number that it is told as; its place is
-- always 0
pub record TellsStep {A : Type 0} (f : A → ℤ) (t : ToldStep) (v : A) (n : ℕ) : Type 0 where
  pub number : n ≡ t.number
  pub value : f v ≡ t.value

abbrev pub TellsAmount : ToldStep → ℤ → ℕ → Type 0
TellsAmount = TellsStep (λ z. z)

abbrev pub TellsCount : ToldStep → ℕ → ℕ → Type 0
TellsCount = TellsStep pos

abbrev pub TellsVerdict : ToldStep → Bool → ℕ → Type 0
TellsVerdict = TellsStep passes

-- ---- a refusal, or none: p is the place that is stored
abbrev pub number_told : Option Refused → ℕ
number_told None = 0
number_told (Some r) = number_of r.refusal

abbrev pub place_told : Option Refused → ℕ
place_told None = 0
place_told (Some r) = r.place

pub record TellsRefusal (r : Option Refused) (p n : ℕ) : Type 0 where
  pub number : n ≡ number_told r
  pub place : p ≡ place_told r

-- ---- the writer: p is the place that is stored, q the next place, and out' what is left of the
-- lent bytes
pub record TellsWritten (t : ToldWritten) (p q n : ℕ) : Type 0 where
  pub number : n ≡ t.number
  pub place : p ≡ t.place
  pub next : q ≡ t.next

pub record WritesRecord (given : Record) (out : List ℕ) (at : ℕ) (out' : List ℕ) (p q n : ℕ)
    : Type 0 where
  pub tells : TellsWritten
      (told_written (answer_of out at (good_record given) (bytes_of_record given))) p q n
  pub left : out' ≡ left_of out at (good_record given) (bytes_of_record given)

-- ---- the reading: of what was read nothing is stored
pub record TellsReading {A : Type 0} (t : ToldReading A) (p n : ℕ) : Type 0 where
  pub number : n ≡ t.number
  pub place : p ≡ t.place

-- ---- the traverse: l is the figures that are stored: n, W, both closures, the precision number,
-- the doubled area, and 1 for a loop
unfoldable pub figures_of : ToldTraverse → List ℤ
figures_of t =
    pos t.legs
    ∷ t.w
    ∷ t.north_closure
    ∷ t.east_closure
    ∷ pos t.precision
    ∷ t.area
    ∷ passes t.loop
    ∷ []

-- how many these figures are. src/lib.rt and the header call it FIGURES
abbrev pub figure_count : ℕ
figure_count = 7

pub record TellsTraverse (t : ToldTraverse) (p : ℕ) (l : List ℤ) (n : ℕ) : Type 0 where
  pub number : n ≡ t.number
  pub place : p ≡ t.place
  pub figures : l ≡ figures_of t

-- ---- the sheet, by the entries e of a table of sines: q is the length that is stored, and out'
-- what is left of the lent bytes
pub record TellsPage (t : ToldSheet) (p q n : ℕ) : Type 0 where
  pub number : n ≡ t.number
  pub place : p ≡ t.place
  pub used : q ≡ t.used

pub record ShowsSheet (e : ℕ → ℤ) (tape out out' : List ℕ) (p q n : ℕ) : Type 0 where
  pub tells : TellsPage (paged e tape (length out)) p q n
  pub left : out' ≡ paged_bytes e tape out
