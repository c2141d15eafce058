-- `without_bom` meets its contract: what the library leaves of a text behind the mark is what the
-- definition says.
use Rattle.notes.proofs.Marks.{left_or_all}
use Rattle.notes.proofs.without_bom.Goals as goal

pub returns : goal.returns
returns c = rw c.unwrap_or.ensures (left_or_all _ _ c.strip_prefix.ensures.cases)
