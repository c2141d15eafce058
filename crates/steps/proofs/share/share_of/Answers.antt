-- `share_of` meets its contract: the size of the total is shared as the rule says, and a share of
-- the opposite is the opposite share.
use Rattle.steps.proofs.Sharing.{share_above, share_below}
use Rattle.steps.proofs.share.share_of.Goals as goal

pub returns-then-below_zero : goal.returns-then-below_zero
returns-then-below_zero c = search share_below

pub returns : goal.returns
returns c = search share_above
