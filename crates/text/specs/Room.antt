-- docs/RULES.md, "Definitions that state no rule": what the writers of text ask and promise. There
-- is room for a text at an offset of the lent bytes, and there it is put; each writer answers the
-- offset after it.
use Rattle.std.specs.Prelude.{ℕ, ◌+◌, ◌≤◌, ◌≡◌, List, length}
use Rattle.std.proofs.lemmas.List.Edits.{sets}

-- there is room for the text at an offset of l
abbrev pub Room : List ℕ → ℕ → List ℕ → Type 0
Room l at text = at + length text ≤ length l

-- m is l with the text put at the offset, and r the offset after it
pub record Put (l : List ℕ) (at : ℕ) (text m : List ℕ) (r : ℕ) : Type 0 where
  pub bytes : m ≡ sets l at text
  pub next : r ≡ at + length text
