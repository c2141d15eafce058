-- `own` meets its contract as `table` does: what it points to is the same list.
use Rattle.minutes.proofs.Entries.{minutes_right}
use Rattle.minutes.proofs.Listed.{minutes}
use Rattle.minutes.proofs.own.Goals as goal

pub returns : goal.returns
unfolding minutes
returns c = minutes_right
