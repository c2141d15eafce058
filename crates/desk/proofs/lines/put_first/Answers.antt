-- `put_first` meets its contract: the closures, and the precision number after them.
use Rattle.text.proofs.Putting.{room_first, room_then, then}
use Rattle.desk.specs.Sheet.{close_line}
use Rattle.desk.proofs.lines.put_first.Goals as goal

pub put_closures-i-requires : goal.put_closures-i-requires
unfolding close_line
put_closures-i-requires c = search room_first

pub put_count-requires : goal.put_count-requires
unfolding close_line
put_count-requires c = search room_then

pub returns : goal.returns
unfolding close_line
returns c = search then
