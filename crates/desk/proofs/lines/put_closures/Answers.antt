-- `put_closures` meets its contract: three named amounts are put one after the other.
use Rattle.text.proofs.Putting.{room_one, room_two, room_three, then}
use Rattle.desk.specs.Sheet.{closures_text}
use Rattle.desk.proofs.lines.put_closures.Goals as goal

pub put_named-i-requires : goal.put_named-i-requires
unfolding closures_text
put_named-i-requires c = search room_one

pub put_feet-j-requires : goal.put_feet-j-requires
unfolding closures_text
put_feet-j-requires c = search room_two

pub put_feet-requires : goal.put_feet-requires
unfolding closures_text
put_feet-requires c = search room_three

pub returns : goal.returns
unfolding closures_text
returns c = search then
