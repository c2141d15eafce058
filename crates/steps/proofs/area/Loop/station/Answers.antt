-- `station` meets its contract: every word passed the test, and so these two.
use Rattle.std.proofs.Common.{rules}
use Rattle.steps.proofs.Areas.{small_at}
use Rattle.steps.proofs.area.Loop.station.Goals as goal

pub returns-clause-size : goal.returns-clause-size
returns-clause-size c = (search (rules, small_at), search (rules, small_at))
