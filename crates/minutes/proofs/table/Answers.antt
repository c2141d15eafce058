-- `table` meets its contract: its constant is the list `minutes`, entry by entry, and of that list
-- the rule is proved once.
use Rattle.minutes.proofs.Entries.{minutes_right}
use Rattle.minutes.proofs.Listed.{minutes}
use Rattle.minutes.proofs.table.Goals as goal

pub returns : goal.returns
unfolding minutes
returns c = minutes_right
