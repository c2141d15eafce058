-- Any two outcomes that the promise of `front` or of `without_bom` allows coincide. Of the other
-- public functions of this crate docs/EXCEPTIONS.md says why there is no such law.
use mathlib.Core.Path.{◌≡◌, sym, ◌∙◌}
use mathlib.Core.List.{List}
use Prim.Native.Nat.{ℕ}
use lib.ListN.{take}
use Rattle.notes.specs.Bom.{without_bom}

pub front_single : (room : List ℕ) (n : ℕ) (x y : List ℕ) → x ≡ take n room → y ≡ take n room
    → x ≡ y
front_single room n x y e f = e ∙ sym f

pub without_bom_single : (text x y : List ℕ) → x ≡ without_bom text → y ≡ without_bom text → x ≡ y
without_bom_single text x y e f = e ∙ sym f
