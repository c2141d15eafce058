-- `doubled` meets its contract. The loop's invariant: the sum is that of the first i stations, and
-- at most i times the largest cross product.
use Prim.Native.Nat.{◌*◌, ◌≤◌}
use mathlib.Core.Path.{◌≡◌}
use lib.IntN.{nat_abs}
use Rattle.steps.specs.Area.{doubled_to}
use Rattle.steps.proofs.area.Loop.doubled.Given as goal

abbrev pub invariant-loop-i : goal.invariant-loop-i
invariant-loop-i l =
    (l.i ≤ l.n) × (l.sum.v ≡ doubled_to l.self.offsets.now l.i)
    × (nat_abs l.sum.v ≤ l.i * 33800000000000000)
