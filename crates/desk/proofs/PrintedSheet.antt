-- docs/RULES.md, "The sheet, and one printed whole": what the definitions print of the tape there
-- is the sheet there, byte for byte, computed by antt; and a tape of no bytes is printed as its
-- refusal.
use Prim.Native.Nat.{ℕ, ◌^◌, ◌<◌}
use native.Mathlib.Omega.{arith}
use mathlib.Core.Path.{◌≡◌, refl, ◌∙◌, ap}
use mathlib.Core.List.{List, [], ◌++◌}
use lib.ListN.{replicate}
use lib.IntN.{pos}
use Rattle.tape.specs.Tape.{walk, reading_of, tape_of}
use Rattle.desk.specs.Answer.{first_of, first_for, traversed_by}
use Rattle.minutes.specs.Entry.{entry}
use Rattle.desk.specs.Answer.{ToldTraverse}
use Rattle.desk.proofs.Printed.{records, answer, stations, printed_told, printed_words}
use Rattle.text.specs.Text.{ascii, digits, digit_count_in, decimal, pointed, sign, amount}
use Rattle.text.proofs.Digits.{decimal_short}
use Rattle.desk.specs.Sheet.{closures_text, close_line, station_line, line_of, station_lines}
use Rattle.desk.specs.Sheet.{area_line}
use Rattle.desk.specs.Sheet.{text_of, printed_of, printed}
use Rattle.desk.specs.Sheet.{sheet_words}

abbrev sheet : List ℕ
sheet =
    ascii "CLOSE W=+0.5 N=-0.01 E=+0.02 P=178886\n"
    ++ ascii "0 50000.00 2000000.00\n"
    ++ ascii "1 51000.00 2000000.00\n"
    ++ ascii "2 51000.01 2001000.01\n"
    ++ ascii "3 50000.00 2001000.00\n"
    ++ ascii "4 50000.00 2000000.00\n"
    ++ ascii "AREA2 2000020.0000\n"

-- of what is told of the printed tape, and of its words; no number in it has more than ten digits
short : (n : ℕ) → n < 10 ^ 10 → decimal n ≡ digits (digit_count_in 9 n) n
short n h = decimal_short 9 n h

figures : printed_of answer (stations ++ replicate 120 (pos 0)) ≡ sheet
unfolding digits digit_count_in pointed sign amount closures_text close_line station_line line_of
    station_lines
    area_line text_of printed_of
figures =
    rw (
      short 0 (omega arith),
      short 1 (omega arith),
      short 2 (omega arith),
      short 3 (omega arith),
      short 4 (omega arith),
      short 178886 (omega arith),
      short 50000 (omega arith),
      short 51000 (omega arith),
      short 2000000 (omega arith),
      short 2001000 (omega arith),
      short 2000020 (omega arith),
    )

pub printed_sheet : printed (tape_of records) ≡ sheet
unfolding printed
printed_sheet =
    ap (λ (t : ToldTraverse). printed_of t (sheet_words entry (tape_of records))) printed_told ∙ ap
    (printed_of answer) (printed_words (pos 0)) ∙ figures

pub printed_refusal : printed [] ≡ ascii "REFUSED 2\n"
unfolding traversed_by first_for first_of reading_of walk digits digit_count_in decimal printed_of
    printed
printed_refusal = refl
