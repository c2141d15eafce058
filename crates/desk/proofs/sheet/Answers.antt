-- `sheet` meets its contract: the entries of the table that it lends are the rules'.
use Rattle.desk.proofs.OwnTable.{own_showed}
use Rattle.desk.proofs.sheet.Goals as goal

pub returns : goal.returns
returns c = search own_showed
