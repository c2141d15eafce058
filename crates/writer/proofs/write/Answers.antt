-- `write` meets its contract: the three ways out of a writer.
use Rattle.writer.proofs.Ways.{wrote}
use Rattle.writer.proofs.write.Goals as goal

pub returns-then-saturating_sub-bytes : goal.returns-then-saturating_sub-bytes
returns-then-saturating_sub-bytes c = search wrote

pub lend_on-requires-clause-given_in_bounds : goal.lend_on-requires-clause-given_in_bounds
lend_on-requires-clause-given_in_bounds c = search wrote

pub returns-then-not-good : goal.returns-then-not-good
returns-then-not-good c = search wrote

pub returns : goal.returns
returns c = search wrote
