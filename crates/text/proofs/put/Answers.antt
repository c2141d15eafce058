-- `put` meets its contract: the text is copied over its part of the bytes.
use Rattle.text.proofs.Putting.{copied}
use Rattle.text.proofs.put.Goals as goal

pub returns : goal.returns
returns c = search copied
