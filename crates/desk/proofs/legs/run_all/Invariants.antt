-- `run_all` meets its contract. The loop's invariant: the sums are those of the station reached,
-- and the list holds those of every station up to it.
use Prim.Native.Nat.{◌+◌}
use mathlib.Core.Path.{◌≡◌}
use Rattle.sines.specs.Sine.{entry_in}
use Rattle.whole.specs.Filled.{filled}
use Rattle.desk.specs.Inside.{with_legs, sums_at}
use Rattle.desk.proofs.legs.run_all.Given as goal

abbrev pub invariant-loop-k : goal.invariant-loop-k
invariant-loop-k l =
    let at = sums_at (entry_in l.table) (with_legs l.b l.legs) in
    record { sums : l.s ≡ at l.k; kept : l.kept ≡ filled at (l.k + 1) l.fn.kept }
