use Rattle.std.proofs.Common.{rules}
use Rattle.steps.proofs.root.ByDigits.{passed}
use Rattle.steps.proofs.root.set_off.Goals as goal

pub loop-passed-preserved : goal.loop-passed-preserved
loop-passed-preserved c = (search rules, search passed)
