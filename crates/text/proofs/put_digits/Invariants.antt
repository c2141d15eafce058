-- `put_digits` meets its contract. The loop's invariant: with the digits of the rest put in front
-- of those that stand, all digits stand.
use Prim.Native.Nat.{◌+◌, ◌≤◌}
use mathlib.Core.Path.{◌≡◌}
use lib.ListN.{length}
use lib.Seq.{sets}
use Rattle.text.specs.Text.{digits}
use Rattle.text.proofs.put_digits.Given as goal

abbrev pub invariant-loop-i : goal.invariant-loop-i
invariant-loop-i l =
    (l.at + l.k ≤ length l.initial.out) × (length l.out ≡ length l.initial.out) ×
    (sets l.out l.at (digits l.i l.rest) ≡ sets l.initial.out l.at (digits l.k l.n))
