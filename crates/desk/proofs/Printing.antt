-- What the program prints is the text that the sheet step shows, or the line of its refusal, which
-- is short since no number is above 9.
use Prim.Native.Nat.{ℕ, ◌≤◌}
use native.Mathlib.Omega.{arith}
use mathlib.Core.Path.{◌≡◌, refl, sym, ◌∙◌, ap}
use mathlib.Core.Bool.{Bool, true, false, cond}
use mathlib.Core.List.{List, ◌++◌}
use borrow.Author.Tests.{le-ltb, eqb-false}
use lib.Dec.{eqb}
use lib.ListN.{length, take, drop, length-append, length-take}
use lib.IntN.{ℤ}
use Rattle.minutes.specs.Entry.{entry}
use Rattle.desk.specs.Answer.{ToldTraverse}
use Rattle.desk.proofs.Accepted.{number_most}
use Rattle.text.specs.Text.{ascii, decimal}
use Rattle.text.specs.Room.{Room, Put}
use Rattle.text.proofs.Lengths.{decimal_most}
use Rattle.text.proofs.Putting.{over_next, over_bytes}
use Rattle.std.specs.Prelude.{Result, Ok, Err}
use Rattle.answer.specs.Refusal.{number_of}
use Rattle.answer.specs.declared.Refused.{Refused}
use Rattle.desk.proofs.Single.{refused_some}
use Rattle.desk.specs.Sheet.{text_of, over, shown, shown_bytes, answered, sheet_words, told_sheet}
use Rattle.desk.specs.Sheet.{ToldSheet, text_page, refused_page}
use Rattle.desk.specs.Sheet.{paged, paged_bytes, Showed, printed_of, printed, printed_in}

refusal_most : (tape : List ℕ)
    → length (ascii "REFUSED " ++ decimal (answered entry tape).number ++ ascii "\n") ≤ 10
refusal_most tape = simp length-append
    (omega (
      arith,
      decimal_most 0 (answered entry tape).number
          (omega (arith, number_most entry tape 130)),
    ))

module _ (tape out : List ℕ) where
  abbrev t : ToldTraverse
  t = answered entry tape

  abbrev words : List ℤ
  words = sheet_words entry tape

  module _ (wide : 4096 ≤ length out) (m : List ℕ) where
    shows : (r : Result ℕ Refused) → Showed entry tape out m r → told_sheet r ≡ shown t words
    unfolding paged
    shows r s = rw (le-ltb (length out) 4096 wide) at s.tells

    leaves : (r : Result ℕ Refused) → Showed entry tape out m r → m ≡ shown_bytes t words out
    unfolding paged_bytes
    leaves r s = rw (le-ltb (length out) 4096 wide) at s.left

    -- ---- a text
    module _ (n : ℕ) (s : Showed entry tape out m (Ok n)) where
      text_case : (eqb t.number 0 ≡ true) × (n ≡ length (text_of t words))
      unfolding shown
      text_case = go (eqb t.number 0) refl (shows (Ok n) s)
        where
          go : (b : Bool) → eqb t.number 0 ≡ b
              → text_page n
              ≡ cond b (text_page (length (text_of t words))) (refused_page t.number t.place)
              → (eqb t.number 0 ≡ true) × (n ≡ length (text_of t words))
          go true f h = (f, ap (λ (p : ToldSheet). p.used) h)
          go false f h = absurd (eqb-false t.number 0 f (ap (λ (p : ToldSheet). p.number) (sym h)))

      pub text_length : n ≡ length (printed_in tape (length out))
      unfolding printed printed_of
      text_length = rw (le-ltb (length out) 4096 wide, text_case.0) text_case.1

      pub text_over : m ≡ over (printed_in tape (length out)) out
      unfolding printed printed_of shown_bytes
      text_over = rw (le-ltb (length out) 4096 wide, text_case.0)
          (rw text_case.0 at (leaves (Ok n) s))

    -- ---- a refusal
    module _ (x : Refused) (s : Showed entry tape out m (Err x)) (n : ℕ)
        (is : n ≡ number_of x.refusal) where
      refused_case : (eqb t.number 0 ≡ false) × (n ≡ t.number)
      unfolding shown
      refused_case = go (eqb t.number 0) refl (shows (Err x) s)
        where
          go : (b : Bool) → eqb t.number 0 ≡ b
              → refused_page (number_of x.refusal) x.place
              ≡ cond b (text_page (length (text_of t words))) (refused_page t.number t.place)
              → (eqb t.number 0 ≡ false) × (n ≡ t.number)
          go false f h = (f, is ∙ ap (λ (p : ToldSheet). p.number) h)
          go true f h = absurd (refused_some x (ap (λ (p : ToldSheet). p.number) h))

      untouched : m ≡ out
      unfolding shown_bytes
      untouched = rw refused_case.0 at (leaves (Err x) s)

      line_is : printed_in tape (length out) ≡ ascii "REFUSED " ++ decimal n ++ ascii "\n"
      unfolding printed printed_of
      line_is = rw (le-ltb (length out) 4096 wide, refused_case.0, ← refused_case.1)

      short : length (ascii "REFUSED " ++ decimal n ++ ascii "\n") ≤ length out
      short = rw refused_case.1 (omega (arith, refusal_most tape))

      pub refusal_room : Room m 0 (ascii "REFUSED " ++ decimal n ++ ascii "\n")
      refusal_room = rw untouched (omega (arith, short))

      module _ (o : List ℕ) (k : ℕ)
          (p : Put m 0 (ascii "REFUSED " ++ decimal n ++ ascii "\n") o k) where
        pub refusal_length : k ≡ length (printed_in tape (length out))
        refusal_length = rw line_is (over_next m _ o k p)

        pub refusal_over : o ≡ over (printed_in tape (length out)) out
        refusal_over = rw line_is (over_bytes out _ o k (rw untouched at p) short)

-- ---- what a caller has: as many bytes as were answered stand at the front
module _ (text out m : List ℕ) (r : ℕ) (e : r ≡ length text) (f : m ≡ over text out) where
  pub front : r ≤ length m
  front = rw (f, length-append text (drop (length text) out)) (omega arith)

  pub front_length : r ≡ length (take r m)
  front_length = omega (arith, length-take r m, front)
