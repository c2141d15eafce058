-- docs/RULES.md, "The sheet, and one printed whole": the figures and stations that the definitions
-- give of the tape there are those of the sheet there, computed by antt. The definitions read,
-- check, balance, run, close and adjust the tape; no code is run.
use mathlib.Core.Path.{◌≡◌, refl}
use mathlib.Core.Bool.{true}
use mathlib.Core.List.{List, [], ◌∷◌, ◌++◌}
use lib.ListN.{replicate}
use lib.IntN.{ℤ, pos, neg_ℤ}
use Rattle.whole.specs.Nearest.{nearest}
use Rattle.whole.specs.Sum.{sum_to}
use Rattle.minutes.specs.Entry.{entry}
use Rattle.minutes.specs.Exact.{exact_sine, exact_quarter, by_series, series, weight, unity}
use Rattle.minutes.specs.Exact.{straight}
use Rattle.minutes.specs.Exact.{pi, factorial}
use Rattle.minutes.specs.Quadrant.{around, signed_by, folded}
use Rattle.sines.specs.Sine.{between, quarter_by, sine_by}
use Rattle.steps.specs.Area.{cross, next_station, doubled_to}
use Rattle.steps.specs.Azimuth.{turn, misclosure, closes_angles, balanced}
use Rattle.steps.specs.Closure.{closes, root, precision}
use Rattle.steps.specs.Course.{move, sine_along}
use Rattle.steps.specs.Distance.{sea_level, combine, grid}
use Rattle.steps.specs.Share.{share}
use Rattle.records.specs.Bytes.{num, bytes, meant, written}
use Rattle.records.specs.Record.{Rec, rec, table, kind_fields, body_of, numbers_of, good_of}
use Rattle.records.specs.Record.{bytes_of}
use Rattle.tape.specs.Tape.{may_come, room_of, row_next, project_next, after_of, take_of, judge}
use Rattle.tape.specs.Tape.{step_of}
use Rattle.tape.specs.Tape.{walk, reading_of, records_from, tape_of}
use Rattle.tape.specs.Fields.{pick, place_of, angle_of, distance_of, is_row, scale_of, picked}
use Rattle.desk.specs.Line.{run, preliminary, adjusted}
use Rattle.desk.specs.Traverse.{with_stations, offsets_to, area_of}
use Rattle.whole.specs.Filled.{filled}
use Rattle.desk.specs.Turns.{carried, balanced_at}
use Rattle.desk.specs.Angles.{misclosure_of, balanced_traverse}
use Rattle.desk.specs.Answer.{ToldTraverse, checked_angles, first_of, first_for, closes_on}
use Rattle.desk.specs.Answer.{adjusted_traverse, adjusted_words, traversed_by, traversed_words_by}
use Rattle.desk.specs.Answer.{traversed, traversed_words}

-- two rows, the project, the start, four legs of a square, and the close on the same point, half a
-- second off
abbrev pub records : List Rec
records =
    rec 5 (pos 2650 ∷ pos 10000572 ∷ [])
    ∷ rec 5 (pos 2651 ∷ pos 10000528 ∷ [])
    ∷ rec 1 (pos 2650 ∷ pos 1196 ∷ [])
    ∷ rec 2 (pos 5000000 ∷ pos 200000000 ∷ pos 0 ∷ [])
    ∷ rec 3 (pos 6480000 ∷ pos 1000000 ∷ [])
    ∷ rec 3 (pos 9720000 ∷ pos 1000020 ∷ [])
    ∷ rec 3 (pos 9720000 ∷ pos 1000010 ∷ [])
    ∷ rec 3 (pos 9720000 ∷ pos 1000000 ∷ [])
    ∷ rec 4 (pos 3240005 ∷ pos 5000000 ∷ pos 200000000 ∷ pos 0 ∷ [])
    ∷ []

-- W=+0.5 N=-0.01 E=+0.02 P=178886, and AREA2 2000020.0000
abbrev pub answer : ToldTraverse
answer = record {
  number = 0;
  place = 0;
  legs = 4;
  w = pos 5;
  north_closure = neg_ℤ (pos 1);
  east_closure = pos 2;
  precision = 178886;
  area = pos 20000200000;
  loop = true;
}

pub printed_told : traversed (tape_of records) 130 ≡ answer
unfolding nearest sum_to exact_sine exact_quarter by_series series weight unity straight pi
    factorial
    around signed_by folded entry between quarter_by sine_by cross next_station doubled_to turn
    misclosure closes_angles balanced closes root precision move sine_along sea_level combine
    grid share num bytes meant written table kind_fields body_of numbers_of good_of bytes_of
    may_come room_of row_next project_next after_of take_of judge step_of walk reading_of
    records_from
    tape_of pick place_of angle_of distance_of is_row scale_of picked run preliminary adjusted
    with_stations offsets_to area_of carried misclosure_of balanced_at filled balanced_traverse
    checked_angles first_of first_for closes_on adjusted_traverse traversed_by
printed_told = refl

-- the five stations, and after them the words as they were lent
abbrev pub stations : List ℤ
stations = pos 5000000 ∷ pos 200000000 ∷ pos 5100000 ∷ pos 200000000 ∷ pos 5100001 ∷ pos 200100001 ∷
    pos 5000000 ∷ pos 200100000 ∷ pos 5000000 ∷ pos 200000000 ∷ []

pub printed_words : (z : ℤ)
    → traversed_words (tape_of records) (replicate 130 z) ≡ stations ++ replicate 120 z
unfolding nearest sum_to exact_sine exact_quarter by_series series weight unity straight pi
    factorial
    around signed_by folded entry between quarter_by sine_by turn misclosure closes_angles balanced
    closes move sine_along sea_level combine grid share num bytes meant written table kind_fields
    body_of numbers_of good_of bytes_of may_come room_of row_next project_next after_of take_of
    judge
    step_of walk reading_of records_from tape_of pick place_of angle_of distance_of is_row scale_of
    picked run preliminary adjusted with_stations carried misclosure_of balanced_at filled
    balanced_traverse checked_angles first_of first_for closes_on adjusted_words traversed_words_by
printed_words z = refl
