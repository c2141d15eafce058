-- docs/RULES.md, "The three demands": the third, of the printed sheet. "The sheet's northing
-- differs from that one by at most 0.55 hundredths for each leg .. plus half a hundredth. So does
-- its easting", said of what a reader of the bytes finds in the line of a station.
use Rattle.std.specs.Prelude.{ℕ, ◌+◌, ◌≡◌, cond, List, [], ◌∷◌, ◌++◌, eqb, pos}
use Rattle.steps.specs.Course.{Axis, north, east}
use Rattle.tape.specs.Fields.{fields_of}
use Rattle.text.specs.Read.{amount_read}
use Rattle.text.specs.Text.{ascii, decimal, plain}
use Rattle.desk.specs.Angles.{Balanced, balanced_traverse}
use Rattle.desk.specs.Sheet.{foot_decimals}
use Rattle.desk.specs.Traverse.{along}
use Rattle.corner.specs.Unrounded.{unrounded_at, StandsWithin, bound}

-- the traverse of a tape, its angles balanced
abbrev pub traverse_of : List ℕ → Balanced
traverse_of tape = balanced_traverse (fields_of tape)

-- how many line feeds stand in some bytes
abbrev pub line_feed : ℕ
line_feed = 10

unfoldable pub feeds : List ℕ → ℕ
feeds [] = 0
feeds (c ∷ cs) = cond (eqb c line_feed) 1 0 + feeds cs

-- in the bytes of a sheet stands the line of station k of the tape, and the northing and the
-- easting read from it stand within the bound of the unrounded ones; at both ends they are the
-- fixed ones
pub record PrintedWithin (tape sheet : List ℕ) (k : ℕ) : Type 0 where
  -- what stands before the line and after it, and its northing and easting as text
  pub before : List ℕ
  pub after : List ℕ
  pub text : Axis → List ℕ
  -- it stands after k + 1 line feeds, the last just before it: that of the first line, and those of
  -- the k stations before
  pub lines : feeds before ≡ k
  pub line : sheet ≡ before ++ ascii "\n"
      ++ (decimal k ++ ((ascii " " ++ text north) ++ (ascii " " ++ text east) ++ ascii "\n"))
      ++ after
  -- each text is that of the amount read from it, and nothing else
  pub exact : (axis : Axis) → text axis ≡ plain foot_decimals (amount_read (text axis))
  pub near : (axis : Axis)
      → StandsWithin (bound (traverse_of tape).legs k) (amount_read (text axis))
      (unrounded_at axis (traverse_of tape) k)
  -- "the first and last stations are exactly the fixed ones"
  pub first : k ≡ 0 → (axis : Axis)
      → amount_read (text axis) ≡ pos (along axis (fields_of tape).opening.from)
  pub last : k ≡ (traverse_of tape).legs → (axis : Axis)
      → amount_read (text axis) ≡ pos (along axis (fields_of tape).closing.to)
