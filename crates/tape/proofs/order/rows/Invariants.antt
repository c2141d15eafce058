-- `rows` meets its contract. The loop's invariant: so many rows are read, seven bytes each, and the
-- reading from the cursor is that of the whole tape. The measure is what is left of the tape.
use Prim.Native.Nat.{◌-◌}
use lib.ListN.{length}
use Rattle.tape.proofs.order.Parts.{Along}
use Rattle.tape.proofs.order.rows.Given as goal

abbrev pub invariant-loop-c : goal.invariant-loop-c
invariant-loop-c l = Along l.tape l.end l.c

abbrev pub decreases-loop-c : goal.decreases-loop-c
decreases-loop-c l = length l.tape - l.c.at
