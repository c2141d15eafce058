-- docs/RULES.md, "The tape": the table of kinds as data, and from it the length, the fields, the
-- ranges and the bytes of a record.
use Rattle.std.specs.Prelude.{Bool, true, false, cond, ◌&&◌, List, [], ◌∷◌, ◌++◌, ℕ, ◌+◌, ◌-◌, eqb}
use Rattle.std.specs.Prelude.{ℤ, pos, neg_ℤ}
use Rattle.std.specs.Int.Signed.{le_z}
use Rattle.answer.specs.Limit.{least_factor, most_factor, least_distance, most_distance}
use Rattle.answer.specs.Limit.{lowest, highest, most_coordinate}
use Rattle.minutes.specs.Entry.{last_minute}
use Rattle.minutes.specs.Quadrant.{circle}
use Rattle.records.specs.declared.Record.{Record}
use Rattle.records.specs.declared.Record.TheVariants as kinds
use Rattle.records.specs.Bytes.{Width, two, four, byte_count, num, bytes}
use Rattle.records.specs.Bytes.{Coding, unsigned, twos_complement, meant, written}

-- ---- "One byte of kind": the five kinds
abbrev pub row_kind : ℕ
row_kind = 5

abbrev pub project_kind : ℕ
project_kind = 1

abbrev pub start_kind : ℕ
start_kind = 2

abbrev pub leg_kind : ℕ
leg_kind = 3

abbrev pub close_kind : ℕ
close_kind = 4

-- ---- a field: how it is written, and its range
pub record Field : Type 0 where
  pub width : Width
  pub coding : Coding
  pub low : ℤ
  pub high : ℤ

abbrev unsigned_field : Width → ℕ → ℕ → Field
unsigned_field w low high = record { width = w; coding = unsigned; low = pos low; high = pos high }

-- "minute of latitude (2 bytes) 0..5,400", and "mean latitude in minutes (2) 0..5,400"
abbrev minute : Field
minute = unsigned_field two 0 last_minute

abbrev factor : Field
factor = unsigned_field four least_factor most_factor

abbrev elevation : Field
elevation =
    record {
      width = two;
      coding = twos_complement;
      low = neg_ℤ (pos lowest);
      high = pos highest;
    }

abbrev coordinate : Field
coordinate = unsigned_field four 0 most_coordinate

-- "angle right (4) 0..12,959,999", and an azimuth to a mark: below the circle
abbrev angle : Field
angle = unsigned_field four 0 (circle - 1)

abbrev distance : Field
distance = unsigned_field four least_distance most_distance

-- ---- the table of kinds
pub record Kind : Type 0 where
  pub kind : ℕ
  pub fields : List Field

abbrev row : ℕ → List Field → Kind
row kind fields = record { kind = kind; fields = fields }

unfoldable pub table : List Kind
table =
    row row_kind (minute ∷ factor ∷ [])
    ∷ row project_kind (minute ∷ elevation ∷ [])
    ∷ row start_kind (coordinate ∷ coordinate ∷ angle ∷ [])
    ∷ row leg_kind (angle ∷ distance ∷ [])
    ∷ row close_kind (angle ∷ coordinate ∷ coordinate ∷ angle ∷ [])
    ∷ []

-- the fields of a kind: those of its row; a kind that has none is never taken
abbrev pub look : List Kind → ℕ → List Field
look [] k = []
look (r ∷ rows) k = cond (eqb k r.kind) r.fields (look rows k)

unfoldable pub kind_fields : ℕ → List Field
kind_fields k = look table k

-- ---- of a record of a kind: the length of its body, its numbers, whether they are in range, and
-- its bytes
abbrev pub total : List Field → ℕ
total [] = 0
total (f ∷ fs) = byte_count f.width + total fs

abbrev pub numbers : List Field → List ℕ → ℕ → List ℤ
numbers [] l k = []
numbers (f ∷ fs) l k =
    meant f.coding f.width (num f.width l k) ∷ numbers fs l (k + byte_count f.width)

abbrev pub in_ranges : List Field → List ℤ → Bool
in_ranges [] [] = true
in_ranges [] (v ∷ vs) = false
in_ranges (f ∷ fs) [] = false
in_ranges (f ∷ fs) (v ∷ vs) = (le_z f.low v && le_z v f.high) && in_ranges fs vs

abbrev pub spell : List Field → List ℤ → List ℕ
spell [] vs = []
spell (f ∷ fs) [] = []
spell (f ∷ fs) (v ∷ vs) = bytes f.width (written f.width v) ++ spell fs vs

unfoldable pub body_of : ℕ → ℕ
unfolding kind_fields table
body_of k = total (kind_fields k)

-- the numbers of the record of kind k at the front of l
unfoldable pub numbers_of : ℕ → List ℕ → List ℤ
numbers_of k l = numbers (kind_fields k) l 1

unfoldable pub good_of : ℕ → List ℤ → Bool
unfolding kind_fields table
good_of k vs = in_ranges (kind_fields k) vs

unfoldable pub bytes_of : ℕ → List ℤ → List ℕ
bytes_of k vs = k ∷ spell (kind_fields k) vs

-- ---- a record by itself: its kind and its numbers. The code's records are these
pub record Rec : Type 0 where
  pub kind : ℕ
  pub values : List ℤ

abbrev pub rec : ℕ → List ℤ → Rec
rec kind values = record { kind = kind; values = values }

unfoldable pub rec_of : Record → Rec
rec_of (kinds.Row m f) = rec row_kind (pos m ∷ pos f ∷ [])
rec_of (kinds.Project m e) = rec project_kind (pos m ∷ e.v ∷ [])
rec_of (kinds.Start n e m) = rec start_kind (pos n ∷ pos e ∷ pos m ∷ [])
rec_of (kinds.Leg a d) = rec leg_kind (pos a ∷ pos d ∷ [])
rec_of (kinds.Close a n e m) = rec close_kind (pos a ∷ pos n ∷ pos e ∷ pos m ∷ [])

abbrev pub good_record : Record → Bool
good_record r = good_of (rec_of r).kind (rec_of r).values

abbrev pub bytes_of_record : Record → List ℕ
bytes_of_record r = bytes_of (rec_of r).kind (rec_of r).values
