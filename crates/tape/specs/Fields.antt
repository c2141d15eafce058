-- docs/RULES.md, "The tape" and "Nine refusals": the fields of a tape by their names, in parts by
-- the record that has them, and what is returned of them. Each is picked from the records of the
-- tape; the row that counts is the one of the mean latitude.
use Rattle.std.specs.Prelude.{Bool, cond, ◌&&◌, ◌||◌, List, [], ◌∷◌, map, ◌≡◌, ℕ, ◌+◌, ◌<◌, eqb}
use Rattle.std.specs.Prelude.{length, get_or, ℤ, pos, nat_abs, Result, Ok, Err}
use Rattle.whole.specs.declared.Whole.{Whole}
use Rattle.records.specs.Record.{Rec, rec, body_of, row_kind, project_kind, start_kind, close_kind}
use Rattle.tape.specs.declared.State.{State}
use Rattle.tape.specs.declared.Point.{Point}
use Rattle.tape.specs.declared.Control.{Control}
use Rattle.answer.specs.declared.Refused.{Refused}
use Rattle.tape.specs.Tape.{is_leg, reading_of, records_of, ToldReading, told_refusal}

-- ---- the parts
-- where the project lies: its mean latitude and elevation, and the factor of the row of that
-- latitude
pub record Site : Type 0 where
  pub latitude : ℕ
  pub elevation : Whole
  pub scale : ℕ

-- the fixed point where the line opens, the azimuth to the mark there, and the place of the first
-- leg, which is the record after it
pub record Opening : Type 0 where
  pub from : Point
  pub mark : ℕ
  pub line : ℕ

-- how many legs, the angles turned (of each leg in its turn, then the closing one), and the
-- distances of the legs
pub record Measured : Type 0 where
  pub legs : ℕ
  pub angles : List ℕ
  pub distances : List ℕ

-- the fixed point where the line closes, the azimuth to the mark there, and the place of the close
pub record Closing : Type 0 where
  pub to : Point
  pub given : ℕ
  pub place : ℕ

pub record Fields : Type 0 where
  pub site : Site
  pub opening : Opening
  pub line : Measured
  pub closing : Closing

-- ---- picking
-- a record's number k; and its size, of a number that has no sign
abbrev pub signed_at : Rec → ℕ → ℤ
signed_at r k = get_or r.values k (pos 0)

abbrev pub number_at : Rec → ℕ → ℕ
number_at r k = nat_abs (signed_at r k)

-- the records whose kind p picks, in their order
unfoldable pub pick : (ℕ → Bool) → List Rec → List Rec
pick p [] = []
pick p (r ∷ rs) = cond (p r.kind) (r ∷ pick p rs) (pick p rs)

abbrev pub none : Rec
none = rec 0 []

-- the one record of a kind
abbrev pub only : ℕ → List Rec → Rec
only k rs = get_or (pick (eqb k) rs) 0 none

-- the place of the first record whose kind p picks, where the first of all has the place at
unfoldable pub place_of : (ℕ → Bool) → ℕ → List Rec → ℕ
place_of p at [] = at
place_of p at (r ∷ rs) = cond (p r.kind) at (place_of p (at + 1 + body_of r.kind) rs)

-- the kinds of records that turn an angle: the legs, and the close
abbrev pub has_angle : ℕ → Bool
has_angle k = is_leg k || eqb k close_kind

unfoldable pub angle_of : Rec → ℕ
angle_of r = number_at r 0

unfoldable pub distance_of : Rec → ℕ
distance_of r = number_at r 1

-- the factor of the first row that has the latitude; 0 if there is none
unfoldable pub is_row : ℕ → Rec → Bool
is_row latitude r = eqb r.kind row_kind && eqb (number_at r 0) latitude

unfoldable pub scale_of : ℕ → List Rec → ℕ
scale_of latitude [] = 0
scale_of latitude (r ∷ rs) = cond (is_row latitude r) (number_at r 1) (scale_of latitude rs)

-- ---- the fields of some records
abbrev pub site_of : List Rec → Site
site_of rs =
    let project = only project_kind rs in
    let latitude = number_at project 0 in
    record {
      latitude = latitude;
      elevation = record { v = signed_at project 1 };
      scale = scale_of latitude rs;
    }

abbrev pub opening_of : List Rec → Opening
opening_of rs =
    let start = only start_kind rs in
    record {
      from = record { north = number_at start 0; east = number_at start 1 };
      mark = number_at start 2;
      line = place_of is_leg 0 rs;
    }

abbrev pub measured_of : List Rec → Measured
measured_of rs =
    record {
      legs = length (pick is_leg rs);
      angles = map angle_of (pick has_angle rs);
      distances = map distance_of (pick is_leg rs);
    }

abbrev pub closing_of : List Rec → Closing
closing_of rs =
    let close = only close_kind rs in
    record {
      to = record { north = number_at close 1; east = number_at close 2 };
      given = number_at close 3;
      place = place_of (eqb close_kind) 0 rs;
    }

unfoldable pub picked : List Rec → Fields
picked rs =
    record {
      site = site_of rs;
      opening = opening_of rs;
      line = measured_of rs;
      closing = closing_of rs;
    }

abbrev pub fields_of : List ℕ → Fields
fields_of tape = picked (records_of tape)

-- ---- the answer. The latitude is left out, since only its scale is used; the angles and distances
-- stay on the tape
abbrev pub control_of : Fields → Control
control_of f =
    record {
      legs = f.line.legs;
      line = f.opening.line;
      elevation = f.site.elevation;
      scale = f.site.scale;
      from = f.opening.from;
      mark = f.opening.mark;
      to = f.closing.to;
      given = f.closing.given;
      place = f.closing.place;
    }

abbrev pub taken_if : Result State Refused → Fields → Result Control Refused
taken_if (Ok st) f = Ok (control_of f)
taken_if (Err r) f = Err r

unfoldable pub taken_of : List ℕ → Result Control Refused
taken_of tape = taken_if (reading_of tape) (fields_of tape)

-- ---- what each case tells: the fields, of which every number is zero on a refusal
abbrev pub no_point : Point
no_point = record { north = 0; east = 0 }

abbrev pub no_control : Control
no_control =
    record {
      legs = 0;
      line = 0;
      elevation = record { v = pos 0 };
      scale = 0;
      from = no_point;
      mark = 0;
      to = no_point;
      given = 0;
      place = 0;
    }

abbrev pub told_taken : Result Control Refused → ToldReading Control
told_taken (Ok c) = record { number = 0; place = 0; read = c }
told_taken (Err r) = told_refusal no_control r

-- each element is a byte, as a lent slice of bytes tells
pub record AllBytes (l : List ℕ) : Type 0 where
  pub each : (i : ℕ) → get_or l i 0 < 256

-- a tape of bytes that reads to a last state
pub record ReadsTo (tape : List ℕ) (last : State) : Type 0 where
  pub bytes : AllBytes tape
  pub reads : reading_of tape ≡ Ok last

-- a tape that reads
pub record DoesRead (tape : List ℕ) : Type 0 where
  pub last : State
  pub reads : reading_of tape ≡ Ok last
