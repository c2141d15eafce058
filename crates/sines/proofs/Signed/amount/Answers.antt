-- `Signed::amount` meets its contract: the sign is turned where it is to be negative, and the size
-- stays.
use Rattle.minutes.specs.Quadrant.{signed_by}
use Rattle.sines.proofs.Signed.amount.Goals as goal

pub returns-then-self-clause-is : goal.returns-then-self-clause-is
unfolding signed_by
returns-then-self-clause-is c = rw c.if-self.true (cc)

pub returns-else-self-clause-is : goal.returns-else-self-clause-is
unfolding signed_by
returns-else-self-clause-is c = rw c.if-self.false (cc)
