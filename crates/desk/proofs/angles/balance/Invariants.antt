-- `balance` meets its contract. The loop's invariant: the legs before leg k are balanced, the
-- others are as they were.
use mathlib.Core.Path.{◌≡◌}
use lib.ListN.{take}
use Rattle.whole.specs.Filled.{filled}
use Rattle.desk.specs.Inside.{balanced_leg}
use Rattle.desk.proofs.angles.balance.Given as goal

abbrev pub invariant-loop-k : goal.invariant-loop-k
invariant-loop-k l =
    l.leg-items
    ≡ filled (balanced_leg l.w.v l.ahead l.angles l.fn.legs) l.k (take l.n l.fn.legs)
