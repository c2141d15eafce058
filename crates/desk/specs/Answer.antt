-- docs/RULES.md, "Nine refusals" and "Closure and compass rule": what a traverse is answered with,
-- and what is left in the lent words.
use Rattle.std.specs.Prelude.{Bool, false, cond, List, ℕ, ◌+◌, ◌*◌, ltb, length, ℤ, pos, Result, Ok}
use Rattle.std.specs.Prelude.{Err}
use Rattle.answer.specs.Limit.{most_legs}
use Rattle.answer.specs.Refusal.{number_of, bad_closure}
use Rattle.answer.specs.declared.Refusal.TheVariants.{NoRoom, BadAngles}
use Rattle.answer.specs.declared.Refused.{Refused}
use Rattle.minutes.specs.Entry.{entry}
use Rattle.steps.specs.Azimuth.{closes_angles}
use Rattle.steps.specs.Closure.{closes, precision}
use Rattle.steps.specs.Course.{north, east}
use Rattle.tape.specs.Fields.{Fields, fields_of}
use Rattle.tape.specs.declared.State.{State}
use Rattle.tape.specs.Tape.{refused_at, reading_of}
use Rattle.desk.specs.Angles.{misclosure_of, Balanced, balanced_traverse}
use Rattle.desk.specs.Line.{run, closure}
use Rattle.desk.specs.Traverse.{long_of, line, with_stations, is_loop, area_of}
use Rattle.desk.specs.declared.Figures.{Figures}

-- "stations 0 to n": one more than there are legs. src/lib.rt has the same name
abbrev pub most_stations : ℕ
most_stations = most_legs + 1

-- "under 130 words for coordinates" there is no room: a northing and an easting for each of
-- stations 0 to 64. src/lib.rt has the same name
abbrev pub station_words : ℕ
station_words = 2 * most_stations

-- what is told: number, place, n, W, both closures, the precision number, the doubled area, and
-- whether the traverse is a loop
pub record ToldTraverse : Type 0 where
  pub number : ℕ
  pub place : ℕ
  pub legs : ℕ
  pub w : ℤ
  pub north_closure : ℤ
  pub east_closure : ℤ
  pub precision : ℕ
  pub area : ℤ
  pub loop : Bool

-- "A refusal returns number and place, every other number zero"
abbrev pub refused_traverse : ℕ → ℕ → ToldTraverse
refused_traverse n p =
    record {
      number = n;
      place = p;
      legs = 0;
      w = pos 0;
      north_closure = pos 0;
      east_closure = pos 0;
      precision = 0;
      area = pos 0;
      loop = false;
    }

abbrev pub told_traverse : Result Figures Refused → ToldTraverse
told_traverse (Err r) = refused_traverse (number_of r.refusal) r.place
told_traverse (Ok f) =
    record {
      number = 0;
      place = 0;
      legs = f.legs;
      w = f.w.v;
      north_closure = f.north_closure.v;
      east_closure = f.east_closure.v;
      precision = f.precision;
      area = f.area.v;
      loop = f.looped;
    }

-- ---- the first step: refusals 2 to 7 of the reading, then "Refused (8) exactly when its size
-- exceeds 100 x (n+1)", at the close
unfoldable pub checked_angles : Fields → Result Balanced Refused
checked_angles f =
    cond (closes_angles (misclosure_of f) f.line.legs) (Ok (balanced_traverse f))
    (refused_at BadAngles f.closing.place)

abbrev pub first_if : Result State Refused → Fields → Result Balanced Refused
first_if (Err r) f = Err r
first_if (Ok st) f = checked_angles f

unfoldable pub first_of : List ℕ → Result Balanced Refused
first_of tape = first_if (reading_of tape) (fields_of tape)

-- "Refusal 1 is tested first", "under 130 words for coordinates"
unfoldable pub first_for : List ℕ → ℕ → Result Balanced Refused
first_for tape room = cond (ltb room station_words) (refused_at NoRoom 0) (first_of tape)

-- ---- the second step, by the entries e of a table of sines: 9 at the close, or the adjusted
-- traverse
abbrev pub north_closure : (ℕ → ℤ) → Balanced → ℤ
north_closure e b = closure (line e north b)

abbrev pub east_closure : (ℕ → ℤ) → Balanced → ℤ
east_closure e b = closure (line e east b)

abbrev pub distance_run : Balanced → ℕ
distance_run b = run (long_of b) b.legs

unfoldable pub closes_on : (ℕ → ℤ) → Balanced → Bool
closes_on e b = closes (north_closure e b) (east_closure e b) (distance_run b)

unfoldable pub adjusted_traverse : (ℕ → ℤ) → Balanced → ToldTraverse
adjusted_traverse e b =
    cond (closes_on e b)
    (record {
      number = 0;
      place = 0;
      legs = b.legs;
      w = b.w.v;
      north_closure = north_closure e b;
      east_closure = east_closure e b;
      precision = precision (north_closure e b) (east_closure e b) (distance_run b);
      area = area_of e b;
      loop = is_loop b;
    })
    (refused_traverse bad_closure b.place)

-- "Accepted coordinates go to a lent list of signed 64-bit words"; on a refusal "lent memory is
-- untouched"
unfoldable pub adjusted_words : (ℕ → ℤ) → Balanced → List ℤ → List ℤ
adjusted_words e b words = cond (closes_on e b) (with_stations e b (b.legs + 1) words) words

-- ---- the whole: the first step, then the second
abbrev pub after_first : (ℕ → ℤ) → Result Balanced Refused → ToldTraverse
after_first e (Err r) = refused_traverse (number_of r.refusal) r.place
after_first e (Ok b) = adjusted_traverse e b

unfoldable pub traversed_by : (ℕ → ℤ) → List ℕ → ℕ → ToldTraverse
traversed_by e tape room = after_first e (first_for tape room)

abbrev pub words_after_first : (ℕ → ℤ) → Result Balanced Refused → List ℤ → List ℤ
words_after_first e (Err r) words = words
words_after_first e (Ok b) words = adjusted_words e b words

unfoldable pub traversed_words_by : (ℕ → ℤ) → List ℕ → List ℤ → List ℤ
traversed_words_by e tape words = words_after_first e (first_for tape (length words)) words

-- ---- the traverse of the rules: by the entries of the desk's own table
abbrev pub traversed : List ℕ → ℕ → ToldTraverse
traversed tape room = traversed_by entry tape room

abbrev pub traversed_words : List ℕ → List ℤ → List ℤ
traversed_words tape words = traversed_words_by entry tape words
