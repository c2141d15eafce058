-- `digit` meets its contract. The loop's invariant: no digit above d fits. The measure is d, which
-- is not 0 where it takes away too much.
use Rattle.steps.specs.Root.{NoneAbove}
use Rattle.steps.proofs.root.Working.digit.Given as goal

abbrev pub invariant-loop-d : goal.invariant-loop-d
invariant-loop-d l = NoneAbove l.self.root l.self.remainder l.d

abbrev pub decreases-loop-d : goal.decreases-loop-d
decreases-loop-d l = l.d
