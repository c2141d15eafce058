-- `put_named` meets its contract: the amount stands after its name.
use Rattle.text.proofs.Putting.{then}
use Rattle.desk.proofs.lines.put_named.Goals as goal

pub returns : goal.returns
returns c = search then
