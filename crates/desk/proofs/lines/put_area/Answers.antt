-- `put_area` meets its contract: a line for a loop, and nothing else.
use Rattle.text.proofs.Putting.{room_then, then}
use Rattle.desk.proofs.lines.StationLines.{area_room, area_first, area_put, area_none}
use Rattle.desk.proofs.lines.put_area.Goals as goal

pub put_named-i-requires : goal.put_named-i-requires
put_named-i-requires c = search area_first

pub put-requires : goal.put-requires
put-requires c = search (room_then, area_room)

pub returns-then-looped : goal.returns-then-looped
returns-then-looped c = search (area_put, then)

pub returns : goal.returns
returns c = search area_none
