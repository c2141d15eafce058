-- `worked` meets its contract. The loop's invariant: the working is that of the pairs brought down.
use Prim.Native.Nat.{◌-◌}
use Rattle.steps.proofs.root.ByDigits.{Brought}
use Rattle.steps.proofs.root.worked.Given as goal

abbrev pub invariant-loop : goal.invariant-loop
invariant-loop l = Brought l.x l.number (l.end - l.counter) l.w
