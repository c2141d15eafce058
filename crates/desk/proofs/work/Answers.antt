-- `work` meets its contract: the first step, then the second where it does not refuse.
use Rattle.std.proofs.Common.{rules}
use Rattle.desk.proofs.Stepping.{first_sound}
use Rattle.desk.proofs.work.Goals as goal

pub settle-requires-clause-sound : goal.settle-requires-clause-sound
settle-requires-clause-sound c = search (first_sound, rules)
