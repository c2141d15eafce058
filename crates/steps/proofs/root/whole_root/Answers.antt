-- `whole_root` meets its contract: the whole working is the whole root.
use Rattle.steps.proofs.root.ByDigits.{nine_pairs}
use Rattle.steps.proofs.root.whole_root.Goals as goal

pub returns : goal.returns
returns c = search nine_pairs
