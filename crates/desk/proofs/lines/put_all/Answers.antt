-- `put_all` meets its contract: the first line, those of the stations and the last one are put one
-- after the other.
use Rattle.text.proofs.Putting.{room_one, room_two, room_three, then}
use Rattle.desk.specs.Sheet.{text_of}
use Rattle.desk.proofs.lines.put_all.Goals as goal

pub put_first-i-requires : goal.put_first-i-requires
unfolding text_of
put_first-i-requires c = search room_one

pub put_stations-j-requires-clause-room : goal.put_stations-j-requires-clause-room
unfolding text_of
put_stations-j-requires-clause-room c = search room_two

pub put_area-requires : goal.put_area-requires
unfolding text_of
put_area-requires c = search room_three

pub returns : goal.returns
unfolding text_of
returns c = search then
