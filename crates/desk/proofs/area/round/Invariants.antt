-- `round` meets its contract. The loop's invariant: the station before k is at hand, taken from the
-- first, and the sum is that of the stations before that one and at most as many times the largest
-- cross product.
use mathlib.Core.Path.{◌≡◌}
use Prim.Native.Nat.{◌-◌, ◌*◌, ◌≤◌}
use lib.IntN.{nat_abs}
use Rattle.steps.specs.Area.{doubled_to}
use Rattle.desk.specs.Inside.{taken_at, taken_from}
use Rattle.desk.proofs.area.round.Given as goal

abbrev pub invariant-loop-k : goal.invariant-loop-k
invariant-loop-k l =
    record {
      here : l.here ≡ taken_at l.words (l.k - 1);
      sum : l.sum.v ≡ doubled_to (taken_from l.words l.n) (l.k - 1);
      size : nat_abs l.sum.v ≤ l.k * 33800000000000000;
    }
