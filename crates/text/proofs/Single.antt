-- Any two outcomes that a promise of this crate allows coincide, wherever there is room: `Put` says
-- what every lent byte is afterwards, and which offset is answered.
use mathlib.Core.Path.{◌≡◌, sym, ◌∙◌}
use mathlib.Core.List.{List}
use Prim.Native.Nat.{ℕ}
use Rattle.text.specs.Room.{Put}

-- `put`, `put_digits`, `put_decimal` and `put_amount`, each of the text that it puts
pub put_single : (l : List ℕ) (at : ℕ) (text m n : List ℕ) (r s : ℕ) → Put l at text m r
    → Put l at text n s → (r ≡ s) × (m ≡ n)
put_single l at text m n r s p q = (p.next ∙ sym q.next, p.bytes ∙ sym q.bytes)
