-- Any two outcomes that a promise of this crate allows coincide, the answer and every lent word or
-- byte. What an answer tells is the whole of it: number 0 is told by an adjusted traverse or a text
-- alone, since no refusal has the number 0, and a refusal's number names it.
use Prim.Native.Nat.{ℕ}
use native.Mathlib.Omega.{arith}
use mathlib.Core.Path.{◌≡◌, sym, ◌∙◌, ap}
use mathlib.Core.List.{List}
use lib.ListN.{length}
use lib.IntN.{ℤ}
use Rattle.std.specs.Prelude.{Result, Ok, Err}
use Rattle.answer.specs.Refusal.{number_of}
use Rattle.answer.specs.declared.Refused.{Refused}
use Rattle.answer.proofs.Single.{one_refusal}
use Rattle.desk.specs.declared.Figures.{Figures}
use Rattle.desk.specs.Answer.{ToldTraverse, told_traverse, traversed_by, traversed_words_by}
use Rattle.desk.specs.Sheet.{over, ToldSheet, told_sheet, Showed, printed_in}
use Rattle.desk.proofs.Numbers.{number_in}

-- no refusal has the number 0
pub refused_some : (r : Refused) → (told_traverse (Err r)).number ≡ 0 → ⊥
refused_some r z = omega (arith, number_in r.refusal)

one_refused : (r s : Refused) → number_of r.refusal ≡ number_of s.refusal → r.place ≡ s.place
    → r ≡ s
one_refused r s e f = rw (one_refusal r.refusal s.refusal e, f)

-- the figures that are told
abbrev figures_in : ToldTraverse → Figures
figures_in t =
    record {
      legs = t.legs;
      w = record { v = t.w };
      north_closure = record { v = t.north_closure };
      east_closure = record { v = t.east_closure };
      precision = t.precision;
      area = record { v = t.area };
      looped = t.loop;
    }

one_answer : (x y : Result Figures Refused) → told_traverse x ≡ told_traverse y → x ≡ y
one_answer (Ok f) (Ok g) h = ap (λ (t : ToldTraverse). Ok (figures_in t)) h
one_answer (Err r) (Err s) h =
    ap Err
    (one_refused r s (ap (λ (t : ToldTraverse). t.number) h)
    (ap (λ (t : ToldTraverse). t.place) h))
one_answer (Ok f) (Err r) h =
    absurd (refused_some r (ap (λ (t : ToldTraverse). t.number) (sym h)))
one_answer (Err r) (Ok f) h = absurd (refused_some r (ap (λ (t : ToldTraverse). t.number) h))

one_page : (x y : Result ℕ Refused) → told_sheet x ≡ told_sheet y → x ≡ y
one_page (Ok m) (Ok n) h = ap (λ (t : ToldSheet). Ok t.used) h
one_page (Err r) (Err s) h =
    ap Err
    (one_refused r s (ap (λ (t : ToldSheet). t.number) h) (ap (λ (t : ToldSheet). t.place) h))
one_page (Ok n) (Err r) h = absurd (refused_some r (ap (λ (t : ToldSheet). t.number) (sym h)))
one_page (Err r) (Ok n) h = absurd (refused_some r (ap (λ (t : ToldSheet). t.number) h))

-- `traverse`, and with the entries of a lent table `traverse_in`
pub traverse_single : (e : ℕ → ℤ) (tape : List ℕ) (words l m : List ℤ)
    (x y : Result Figures Refused)
    → told_traverse x ≡ traversed_by e tape (length words) → l ≡ traversed_words_by e tape words
    → told_traverse y ≡ traversed_by e tape (length words) → m ≡ traversed_words_by e tape words
    → (x ≡ y) × (l ≡ m)
traverse_single e tape words l m x y c f g h = (one_answer x y (c ∙ sym g), f ∙ sym h)

-- `sheet`, and with the entries of a lent table `sheet_in`
pub sheet_single : (e : ℕ → ℤ) (tape out l m : List ℕ) (x y : Result ℕ Refused)
    → Showed e tape out l x → Showed e tape out m y → (x ≡ y) × (l ≡ m)
sheet_single e tape out l m x y s t = (one_page x y (s.tells ∙ sym t.tells), s.left ∙ sym t.left)

-- `print`
pub print_single : (tape out l m : List ℕ) (x y : ℕ)
    → x ≡ length (printed_in tape (length out)) → l ≡ over (printed_in tape (length out)) out
    → y ≡ length (printed_in tape (length out)) → m ≡ over (printed_in tape (length out)) out
    → (x ≡ y) × (l ≡ m)
print_single tape out l m x y e f g h = (e ∙ sym g, f ∙ sym h)
