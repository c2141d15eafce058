-- `put_coordinates` meets its contract: northing, easting and the line feed are put one after the
-- other.
use Rattle.text.proofs.Putting.{then}
use Rattle.desk.proofs.lines.put_coordinates.Goals as goal

pub returns : goal.returns
returns c = search then
