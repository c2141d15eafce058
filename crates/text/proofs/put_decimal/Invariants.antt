-- `put_decimal` meets its contract. The loop's invariant: with the digits of the rest put in front
-- of those that stand, all digits stand, and the rest has as many as there is room for in front.
-- The measure is the rest.
use Prim.Native.Nat.{◌+◌, ◌≤◌}
use mathlib.Core.Path.{◌≡◌}
use lib.ListN.{length}
use lib.Seq.{sets}
use Rattle.text.specs.Text.{decimal, digit_count}
use Rattle.text.proofs.put_decimal.Given as goal

abbrev pub invariant-loop-rest : goal.invariant-loop-rest
invariant-loop-rest l =
    (l.end ≡ l.at + digit_count l.n) × (l.end ≤ length l.initial.out)
    × (length l.out ≡ length l.initial.out) × (l.place ≡ l.at + digit_count l.rest)
    × (l.place ≤ l.end) × (sets l.out l.at (decimal l.rest) ≡ sets l.initial.out l.at (decimal l.n))

abbrev pub decreases-loop-rest : goal.decreases-loop-rest
decreases-loop-rest l = l.rest
