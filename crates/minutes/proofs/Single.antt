-- Any two outcomes that a promise of this crate allows coincide, for every input.
use mathlib.Core.Path.{◌≡◌, sym, ◌∙◌, ap}
use mathlib.Core.List.{List}
use Prim.Native.Nat.{ℕ}
use native.Mathlib.Omega.{arith}
use lib.Seq.{ext_get_or}
use lib.IntN.{nat_abs}
use Rattle.minutes.specs.Entry.{Table}

-- `table`, `own`
pub table_single : (t u : List ℕ) → Table t → Table u → t ≡ u
table_single t u p q =
    ext_get_or 0 t u (p.count ∙ sym q.count)
    (λ i h. ap nat_abs (p.each i (omega (arith, p.count)) ∙ sym
    (q.each i (omega (arith, p.count)))))
