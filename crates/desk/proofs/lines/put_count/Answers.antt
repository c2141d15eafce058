-- `put_count` meets its contract: the name, the count and the line feed are put one after the
-- other.
use Rattle.text.proofs.Putting.{then}
use Rattle.desk.proofs.lines.put_count.Goals as goal

pub returns : goal.returns
returns c = search then
