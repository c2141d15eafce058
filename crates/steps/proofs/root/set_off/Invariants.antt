-- `set_off` meets its contract. The loop's invariant: the number is x, moved by the pairs passed
-- over, and has nine pairs.
use mathlib.Core.Path.{◌≡◌}
use Prim.Native.Nat.{◌*◌, ◌^◌, ◌<◌}
use Rattle.steps.proofs.root.set_off.Given as goal

abbrev pub invariant-loop-passed : goal.invariant-loop-passed
invariant-loop-passed l = (l.number < 100 ^ 9) × (l.number ≡ l.x * 100 ^ l.passed)
