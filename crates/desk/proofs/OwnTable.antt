-- The forms without a lent table lend the desk's own, whose entries are the rules'.
use mathlib.Core.Path.{◌≡◌, subst}
use mathlib.Core.List.{List}
use Prim.Native.Nat.{ℕ}
use lib.IntN.{ℤ}
use Rattle.minutes.specs.Entry.{Table, entry}
use Rattle.sines.specs.Sine.{entry_in}
use Rattle.sines.proofs.Own.{own_entries}
use Rattle.desk.specs.Answer.{ToldTraverse, traversed_by, traversed, traversed_words_by}
use Rattle.desk.specs.Answer.{traversed_words}
use Rattle.desk.specs.Sheet.{Showed}
use Rattle.std.specs.Prelude.{Result}
use Rattle.answer.specs.declared.Refused.{Refused}

module _ (t : List ℕ) (right : Table t) where
  -- what holds by the entries of the table holds by the rules'
  by_entries : (P : (ℕ → ℤ) → Type 0) → P (entry_in t) → P entry
  by_entries P h = subst P (own_entries t right) h

  pub own_told : (tape : List ℕ) (room : ℕ) (r : ToldTraverse)
      → r ≡ traversed_by (entry_in t) tape room → r ≡ traversed tape room
  own_told tape room r h = by_entries (λ e. r ≡ traversed_by e tape room) h

  pub own_words_lem : (tape : List ℕ) (l words : List ℤ)
      → l ≡ traversed_words_by (entry_in t) tape words → l ≡ traversed_words tape words
  own_words_lem tape l words h = by_entries (λ e. l ≡ traversed_words_by e tape words) h

  pub own_showed : (tape out m : List ℕ) (r : Result ℕ Refused) → Showed (entry_in t) tape out m r
      → Showed entry tape out m r
  own_showed tape out m r h = by_entries (λ e. Showed e tape out m r) h
