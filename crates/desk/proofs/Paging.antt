-- The sheet step: an answer of number 0 is the adjusted traverse whose text is put line by line,
-- and any other is handed on. There is room for the text, since it never exceeds 4,096 bytes, and
-- what is put from the first byte on leaves all after it as it was.
use Prim.Native.Nat.{ℕ, ◌≤◌, ◌<◌}
use native.Mathlib.Omega.{arith}
use mathlib.Core.Path.{◌≡◌, sym, ap}
use mathlib.Core.List.{List}
use borrow.Author.Tests.{lt-ltb, le-ltb, ne_eqb}
use lib.ListN.{length}
use lib.IntN.{ℤ}
use Rattle.std.specs.Prelude.{Result, Ok, Err}
use Rattle.answer.specs.declared.Refusal.TheVariants.{NoRoom}
use Rattle.answer.specs.declared.Refused.{Refused}
use Rattle.sines.proofs.Own.{Entries}
use Rattle.tape.specs.Fields.{fields_of, taken_of}
use Rattle.tape.specs.declared.Control.{Control}
use Rattle.text.specs.Room.{Room, Put}
use Rattle.text.proofs.Putting.{over_next, over_bytes}
use Rattle.desk.specs.declared.Figures.{Figures}
use Rattle.desk.specs.Answer.{ToldTraverse, checked_angles, after_first, words_after_first}
use Rattle.desk.specs.Answer.{traversed_by, traversed_words_by, told_traverse}
use Rattle.desk.specs.Inside.{Known}
use Rattle.desk.specs.Sheet.{text_of, shown, shown_bytes, own_words, text_page, paged, paged_bytes}
use Rattle.desk.specs.Sheet.{Showed}
use Rattle.desk.proofs.Accepted.{accepted, accepted_sized}
use Rattle.desk.proofs.Fitting.{sheet_fits}
use Rattle.desk.proofs.Single.{refused_some}
use Rattle.desk.proofs.Stepping.{known_told, known_words, refused_told}

module _ (e : ℕ → ℤ) (tape out : List ℕ) where
  pub no_room_lem : (x : Refused) → length out < 4096 → x ≡ record { refusal = NoRoom; place = 0 }
      → Showed e tape out out (Err x)
  unfolding paged paged_bytes
  no_room_lem x few h = let b = lt-ltb (length out) 4096 few in
      record { tells = rw (h, b); left = rw b }

  module _ (wide : 4096 ≤ length out) where
    -- a refusal of the traverse is handed on: no refusal has the number 0
    handed_on : (x : Refused) → told_traverse (Err x) ≡ traversed_by e tape 130
        → Showed e tape out out (Err x)
    unfolding paged paged_bytes shown shown_bytes
    handed_on x h =
        let b = le-ltb (length out) 4096 wide in
        let z = ne_eqb _ 0 (refused_some x) in
        record { tells = rw (b, ← h, z); left = rw (b, ← h, z) }

    -- that of a tape that does not read
    pub refused_showed : (t : Result Control Refused) → t ≡ taken_of tape → (x : Refused)
        → t ≡ Err x → Showed e tape out out (Err x)
    refused_showed t f x h = handed_on x (refused_told e tape own_words (omega arith) t f x h)

    -- a tape that reads, worked with the step's own words
    module _ (c : Control) (known : Known tape c) where
      told : (r : Result Figures Refused)
          → told_traverse r ≡ after_first e (checked_angles (fields_of tape))
          → told_traverse r ≡ traversed_by e tape 130
      told r g = known_told e tape own_words (omega arith) c known r g

      pub stopped_showed : (x : Refused)
          → told_traverse (Err x) ≡ after_first e (checked_angles (fields_of tape))
          → Showed e tape out out (Err x)
      stopped_showed x g = handed_on x (told (Err x) g)

      module _ (entries : Entries e) (y : Figures)
          (g : told_traverse (Ok y) ≡ after_first e (checked_angles (fields_of tape))) where
        none : (traversed_by e tape 130).number ≡ 0
        none = ap (λ (t : ToldTraverse). t.number) (sym (told (Ok y) g))

        pub legs_few : y.legs ≤ 64
        legs_few = rw (← told (Ok y) g) at
            (accepted_sized e tape 130 entries (accepted e tape 130 none)).legs

        module _ (words : List ℤ)
            (f : words ≡ words_after_first e (checked_angles (fields_of tape)) own_words) where
          its_words : words ≡ traversed_words_by e tape own_words
          its_words = known_words e tape own_words (omega arith) c known words f

          fits : length (text_of (told_traverse (Ok y)) words) ≤ length out
          fits = rw (told (Ok y) g, its_words) (omega (arith, sheet_fits e entries tape none))

          pub text_room : Room out 0 (text_of (told_traverse (Ok y)) words)
          text_room = omega (arith, fits)

          pub text_showed : (m : List ℕ) (k : ℕ)
              → Put out 0 (text_of (told_traverse (Ok y)) words) m k → Showed e tape out m (Ok k)
          unfolding paged paged_bytes shown shown_bytes
          text_showed m k p =
              let b = le-ltb (length out) 4096 wide in
              record {
                tells = rw (b, ← told (Ok y) g, ← its_words) (ap text_page (over_next out _ m k p));
                left = rw (b, ← told (Ok y) g, ← its_words) (over_bytes out _ m k p fits);
              }
