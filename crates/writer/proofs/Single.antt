-- Any two outcomes that the writer's promise allows coincide: it leaves one answer and one list of
-- bytes, since its promise says what both equal, from what was given alone.
use mathlib.Core.Path.{◌≡◌, sym, ◌∙◌}
use mathlib.Core.List.{List}
use Prim.Native.Nat.{ℕ}
use Rattle.std.proofs.Common.{Result}
use Rattle.records.specs.declared.Record.{Record}
use Rattle.records.specs.Record.{good_record, bytes_of_record}
use Rattle.answer.specs.declared.Refused.{Refused}
use Rattle.writer.specs.Write.{Wrote}

-- `write`
pub write_single : (out a b : List ℕ) (place : ℕ) (given : Record) (x y : Result ℕ Refused)
    → Wrote out a place (good_record given) (bytes_of_record given) x
    → Wrote out b place (good_record given) (bytes_of_record given) y → (x ≡ y) × (a ≡ b)
write_single out a b place given x y v w = (v.answer ∙ sym w.answer, v.left ∙ sym w.left)
