-- docs/RULES.md, "The sheet, and one printed whole" and "Nine refusals": the text of an accepted
-- tape, line by line, and what the sheet step answers and leaves in the lent bytes.
use Rattle.std.specs.Prelude.{ℕ, zero, suc, ◌+◌, Bool, cond, List, [], ◌++◌, ◌≡◌, ltb, eqb, length}
use Rattle.std.specs.Prelude.{get_or, drop, replicate, ℤ, pos, Result, Ok, Err}
use Rattle.answer.specs.Refusal.{number_of, no_room}
use Rattle.answer.specs.declared.Refused.{Refused}
use Rattle.steps.specs.Course.{north, east}
use Rattle.minutes.specs.Entry.{entry}
use Rattle.desk.specs.Answer.{station_words, traversed_by, traversed_words_by}
use Rattle.desk.specs.Answer.{ToldTraverse}
use Rattle.desk.specs.Traverse.{word_index}
use Rattle.text.specs.Text.{ascii, decimal, signed, plain}

-- ---- the decimals of what is printed: seconds have one, feet two, square feet four
abbrev pub second_decimals : ℕ
second_decimals = 1

abbrev pub foot_decimals : ℕ
foot_decimals = 2

abbrev pub area_decimals : ℕ
area_decimals = 4

-- ---- "Every line ends with one line feed; nothing is padded."
-- "First line: W in seconds, closures in feet, always signed (zero is +), precision number."
unfoldable pub closures_text : ℤ → ℤ → ℤ → List ℕ
closures_text w n e =
    (ascii "CLOSE W=" ++ signed second_decimals w)
    ++ (ascii " N=" ++ signed foot_decimals n)
    ++ (ascii " E=" ++ signed foot_decimals e)

unfoldable pub close_line : ℤ → ℤ → ℤ → ℕ → List ℕ
close_line w n e p = closures_text w n e ++ (ascii " P=" ++ decimal p ++ ascii "\n")

-- "Then station, northing, easting, a minus sign only when negative"
unfoldable pub station_line : ℕ → ℤ → ℤ → List ℕ
station_line k n e =
    decimal k
    ++ ((ascii " " ++ plain foot_decimals n) ++ (ascii " " ++ plain foot_decimals e) ++ ascii "\n")

-- the line of station k, whose coordinates are in the words, and the lines of the first k stations
unfoldable pub line_of : List ℤ → ℕ → List ℕ
line_of words k =
    station_line k (get_or words (word_index north k) (pos 0))
    (get_or words (word_index east k) (pos 0))

unfoldable pub station_lines : List ℤ → ℕ → List ℕ
station_lines words zero = []
station_lines words (suc k) = station_lines words k ++ line_of words k

-- "The last line stands only for a loop."
unfoldable pub area_line : ℤ → Bool → List ℕ
area_line area loop = cond loop (ascii "AREA2 " ++ plain area_decimals area ++ ascii "\n") []

-- the sheet of an adjusted traverse, and of its stations' words
unfoldable pub text_of : ToldTraverse → List ℤ → List ℕ
text_of t words =
    close_line t.w t.north_closure t.east_closure t.precision
    ++ station_lines words (t.legs + 1)
    ++ area_line t.area t.loop

-- ---- what is told: number, place and the text's length
pub record ToldSheet : Type 0 where
  pub number : ℕ
  pub place : ℕ
  pub used : ℕ

-- of a text of n bytes; and "a refusal returns number and place, every other number zero"
abbrev pub text_page : ℕ → ToldSheet
text_page n = record { number = 0; place = 0; used = n }

abbrev pub refused_page : ℕ → ℕ → ToldSheet
refused_page n p = record { number = n; place = p; used = 0 }

abbrev pub told_sheet : Result ℕ Refused → ToldSheet
told_sheet (Err r) = refused_page (number_of r.refusal) r.place
told_sheet (Ok n) = text_page n

-- ---- what is shown of a traverse: its refusal, or its text "from the first lent byte", which
-- "changes nothing after it"
abbrev pub over : List ℕ → List ℕ → List ℕ
over bytes out = bytes ++ drop (length bytes) out

unfoldable pub shown : ToldTraverse → List ℤ → ToldSheet
shown t words =
    cond (eqb t.number 0) (text_page (length (text_of t words)))
    (refused_page t.number t.place)

unfoldable pub shown_bytes : ToldTraverse → List ℤ → List ℕ → List ℕ
shown_bytes t words out = cond (eqb t.number 0) (over (text_of t words) out) out

-- "under 4,096 bytes for the sheet" there is no room. src/lib.rt has the same name
abbrev pub sheet_bytes : ℕ
sheet_bytes = 4096

-- ---- the sheet step: "Refusal 1 is tested first", "under 4,096 bytes for the sheet"; "its
-- refusals are the tape's". The words are the step's own
abbrev pub own_words : List ℤ
own_words = replicate station_words (pos 0)

-- by the entries e of a table of sines
abbrev pub answered : (ℕ → ℤ) → List ℕ → ToldTraverse
answered e tape = traversed_by e tape station_words

abbrev pub sheet_words : (ℕ → ℤ) → List ℕ → List ℤ
sheet_words e tape = traversed_words_by e tape own_words

unfoldable pub paged : (ℕ → ℤ) → List ℕ → ℕ → ToldSheet
paged e tape room =
    cond (ltb room sheet_bytes) (refused_page no_room 0)
    (shown (answered e tape) (sheet_words e tape))

unfoldable pub paged_bytes : (ℕ → ℤ) → List ℕ → List ℕ → List ℕ
paged_bytes e tape out =
    cond (ltb (length out) sheet_bytes) out (shown_bytes (answered e tape) (sheet_words e tape) out)

-- ---- what the sheet step owes: its answer r tells what the rules say, and out' is what it leaves
-- of out
pub record Showed (e : ℕ → ℤ) (tape out out' : List ℕ) (r : Result ℕ Refused) : Type 0 where
  pub tells : told_sheet r ≡ paged e tape (length out)
  pub left : out' ≡ paged_bytes e tape out

-- ---- what the program prints: the sheet, or "one line, as `REFUSED 8`"; nothing in bytes that
-- have no room for a sheet
unfoldable pub printed_of : ToldTraverse → List ℤ → List ℕ
printed_of t words =
    cond (eqb t.number 0) (text_of t words)
    (ascii "REFUSED " ++ decimal t.number ++ ascii "\n")

unfoldable pub printed : List ℕ → List ℕ
printed tape = printed_of (answered entry tape) (sheet_words entry tape)

abbrev pub printed_in : List ℕ → ℕ → List ℕ
printed_in tape room = cond (ltb room sheet_bytes) [] (printed tape)

-- the bytes of a tape that the program reads. They are enough: of any tape the same is printed as
-- of its first 8,192 bytes (proofs/Enough.antt). The program SHEET has the same name
abbrev pub tape_bytes : ℕ
tape_bytes = 8192
