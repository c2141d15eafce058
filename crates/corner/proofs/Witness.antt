-- A witness: demand 3 applied to the tape whose sheet is printed whole. Station 2 stands at
-- 51000.01 north, 2001000.01 east, with two legs on either side of it: its bound is 1.6 hundredths.
use Prim.Native.Nat.{ℕ}
use native.Mathlib.Omega.{arith}
use mathlib.Core.Path.{◌≡◌, refl, sym, ◌∙◌, ap, subst}
use mathlib.Core.List.{List, ◌++◌}
use lib.ListN.{replicate, get_or}
use lib.IntN.{ℤ, pos}
use Rattle.minutes.specs.Entry.{entry}
use Rattle.steps.specs.Course.{Axis, north, east}
use Rattle.tape.specs.Fields.{fields_of}
use Rattle.tape.specs.Tape.{tape_of}
use Rattle.std.specs.Prelude.{Result, Ok}
use Rattle.answer.specs.declared.Refused.{Refused}
use Rattle.desk.specs.declared.Figures.{Figures}
use Rattle.desk.specs.Angles.{Balanced, balanced_traverse}
use Rattle.desk.specs.Answer.{ToldTraverse}
use Rattle.desk.specs.Traverse.{word_index}
use Rattle.desk.proofs.Accepted.{accepted, accepted_legs}
use Rattle.desk.proofs.Printed.{records, answer, stations, printed_told, printed_words}
use Rattle.corner.specs.Unrounded.{unrounded_at, StandsWithin, bound}
use Rattle.corner.proofs.Corner.{corner}

abbrev yard : Balanced
yard = balanced_traverse (fields_of (tape_of records))

-- what `traverse` answers of the printed tape
abbrev adjusted : Result Figures Refused
adjusted =
    Ok (record {
      legs = answer.legs;
      w = record { v = answer.w };
      north_closure = record { v = answer.north_closure };
      east_closure = record { v = answer.east_closure };
      precision = answer.precision;
      area = record { v = answer.area };
      looped = answer.loop;
    })

words : List ℤ
words = stations ++ replicate 120 (pos 0)

four : yard.legs ≡ 4
four =
    sym (accepted_legs entry (tape_of records) 130
    (accepted entry (tape_of records) 130 (ap (λ (t : ToldTraverse). t.number) printed_told)))
    ∙ ap (λ (t : ToldTraverse). t.legs) printed_told

station_2 : (axis : Axis)
    → StandsWithin (bound 4 2) (get_or words (word_index axis 2) (pos 0)) (unrounded_at axis yard 2)
unfolding words
station_2 axis =
    let word = get_or words (word_index axis 2) (pos 0) in
    subst (λ (n : ℕ). StandsWithin (bound n 2) word (unrounded_at axis yard 2)) four
    (corner (tape_of records) (replicate 130 (pos 0)) words adjusted (sym printed_told)
    (sym (printed_words (pos 0))) refl axis 2 (omega (arith, four)))

-- 160 hundredths of a hundredth: 55 for each of two legs, and 50
pub printed_north : StandsWithin 160 (pos 5100001) (unrounded_at north yard 2)
unfolding words
printed_north = station_2 north

pub printed_east : StandsWithin 160 (pos 200100001) (unrounded_at east yard 2)
unfolding words
printed_east = station_2 east
