-- `line` meets its contract. The loop's invariant: the reading from the first leg on is that from
-- the cursor. The measure is what is left of the tape.
use Prim.Native.Nat.{◌-◌}
use lib.ListN.{length}
use Rattle.tape.proofs.order.Parts.{Lining}
use Rattle.tape.proofs.order.line.Given as goal

abbrev pub invariant-loop-c : goal.invariant-loop-c
invariant-loop-c l = Lining l.tape l.initial.c l.c

abbrev pub decreases-loop-c : goal.decreases-loop-c
decreases-loop-c l = length l.tape - l.c.at
