-- Demand 3, of what the sheet step writes and of what the program prints: where the tape is
-- accepted, the line of every station stands in the bytes, and what is read from it stands within
-- the bound. It is true because the words printed are those of the traverse, and what is printed
-- reads back as the word.
use Prim.Native.Nat.{ℕ, ◌≤◌}
use native.Mathlib.Omega.{arith}
use mathlib.Core.Path.{◌≡◌, sym, ◌∙◌, ap}
use mathlib.Core.List.{List, ◌++◌, append_assoc}
use borrow.Author.Tests.{le-ltb, eq-eqb}
use lib.ListN.{length, take, drop, get_or}
use lib.Seq.{take-append_seam}
use lib.IntN.{ℤ, pos}
use Rattle.minutes.specs.Entry.{entry}
use Rattle.steps.specs.Course.{Axis}
use Rattle.tape.specs.Fields.{fields_of}
use Rattle.text.specs.Read.{amount_read}
use Rattle.text.specs.Text.{plain}
use Rattle.text.proofs.ReadBack.{plain_back}
use Rattle.std.specs.Prelude.{Result}
use Rattle.answer.specs.declared.Refused.{Refused}
use Rattle.desk.specs.Angles.{Balanced, balanced_traverse}
use Rattle.desk.specs.Sheet.{foot_decimals, station_line, line_of, text_of, own_words, answered}
use Rattle.desk.specs.Sheet.{sheet_words, told_sheet, Showed, over, printed_of, printed, printed_in}
use Rattle.desk.specs.Traverse.{along, word_index}
use Rattle.desk.proofs.Accepted.{Accepted, accepted, accepted_legs, accepted_sound}
use Rattle.desk.proofs.Accepted.{station, first_station, last_station}
use Rattle.desk.proofs.ShownLines.{line_in_text, showed_accepts, showed_text, showed_sheet}
use Rattle.corner.specs.Printed.{traverse_of, PrintedWithin}
use Rattle.corner.proofs.Corner.{station_near}
use Rattle.corner.proofs.Feeds.{before_ends}

-- what is printed in a sheet is printed there whatever stands after the sheet
longer : (tape sheet rest : List ℕ) (k : ℕ) → PrintedWithin tape sheet k
    → PrintedWithin tape (sheet ++ rest) k
longer tape sheet rest k p =
    record {
      before = p.before;
      after = p.after ++ rest;
      text = p.text;
      lines = p.lines;
      line = rw p.line (simp append_assoc);
      exact = p.exact;
      near = p.near;
      first = p.first;
      last = p.last;
    }

-- ---- the text of an accepted tape
module _ (tape : List ℕ) (number : (answered entry tape).number ≡ 0) where
  abbrev b : Balanced
  b = traverse_of tape

  taken : Accepted entry tape (length own_words)
  taken = accepted entry tape (length own_words) number

  -- a station's word, its text, and what is read from that
  abbrev word : Axis → ℕ → ℤ
  word axis k = get_or (sheet_words entry tape) (word_index axis k) (pos 0)

  abbrev word_text : Axis → ℕ → List ℕ
  word_text axis k = plain foot_decimals (word axis k)

  read : (axis : Axis) (k : ℕ) → amount_read (word_text axis k) ≡ word axis k
  read axis k = plain_back foot_decimals (word axis k)

  first_word : (axis : Axis) (k : ℕ) → k ≡ 0
      → word axis k ≡ pos (along axis (fields_of tape).opening.from)
  first_word axis k e = rw e (first_station entry tape own_words number axis)

  last_word : (axis : Axis) (k : ℕ) → k ≡ b.legs
      → word axis k ≡ pos (along axis (fields_of tape).closing.to)
  unfolding balanced_traverse
  last_word axis k e = rw e (last_station entry tape own_words number axis)

  text_corner : (k : ℕ) → k ≤ b.legs
      → PrintedWithin tape (text_of (answered entry tape) (sheet_words entry tape)) k
  unfolding line_of station_line
  text_corner k h =
      let few : k ≤ (answered entry tape).legs =
      omega (arith, accepted_legs entry tape (length own_words) taken) in
      let sound = accepted_sound entry tape (length own_words) taken in
      let i = line_in_text (answered entry tape) (sheet_words entry tape) k few in
      let c = before_ends (answered entry tape) (sheet_words entry tape) k in
      record {
        before = c.start;
        after = i.0;
        text = λ axis. word_text axis k;
        lines = c.lines;
        line = rw c.is at i.1;
        exact = λ axis. sym (ap (plain foot_decimals) (read axis k));
        near =
            λ axis. rw (read axis k, station entry tape own_words number axis k h)
            (station_near b sound axis k h);
        first = λ e axis. read axis k ∙ first_word axis k e;
        last = λ e axis. read axis k ∙ last_word axis k e;
      }

-- ---- r and left are what the promise of `sheet` allows for the tape and the lent bytes
module _ (tape out left : List ℕ) (r : Result ℕ Refused) (s : Showed entry tape out left r)
    (accepts : (told_sheet r).number ≡ 0) (k : ℕ) (h : k ≤ (traverse_of tape).legs) where
  in_text : PrintedWithin tape (text_of (answered entry tape) (sheet_words entry tape)) k
  in_text = text_corner tape (showed_accepts entry tape out left r s accepts) k h

  -- in the sheet, which is as many bytes as are told
  pub sheet_corner : PrintedWithin tape (take (told_sheet r).used left) k
  sheet_corner = rw (showed_sheet entry tape out left r s accepts) in_text

  -- and so in all the lent bytes
  pub printed_corner : PrintedWithin tape left k
  printed_corner = rw (showed_text entry tape out left r s accepts) (longer tape _ _ k in_text)

-- ---- r and left are what the promise of `print` allows for the tape and the lent bytes, of a tape
-- that the desk accepts
module _ (tape out left : List ℕ) (r : ℕ) (room : 4096 ≤ length out)
    (long : r ≡ length (printed_in tape (length out)))
    (bytes : left ≡ over (printed_in tape (length out)) out)
    (accepts : (answered entry tape).number ≡ 0) (k : ℕ) (h : k ≤ (traverse_of tape).legs) where
  text_printed : printed_in tape (length out)
      ≡ text_of (answered entry tape) (sheet_words entry tape)
  unfolding printed printed_of
  text_printed = rw (le-ltb (length out) 4096 room, eq-eqb (answered entry tape).number 0 accepts)

  -- in what the program prints, which is as many bytes as are answered
  pub print_corner : PrintedWithin tape (take r left) k
  print_corner =
      let text = text_of (answered entry tape) (sheet_words entry tape) in
      rw (long, bytes, text_printed, take-append_seam text (drop (length text) out))
      (text_corner tape accepts k h)
