-- `put_station` meets its contract: the station's number, and its place from the words after it.
use Rattle.text.proofs.Putting.{room_first}
use Rattle.desk.specs.Sheet.{line_of, station_line}
use Rattle.desk.proofs.lines.StationLines.{place_room, place_put}
use Rattle.desk.proofs.lines.put_station.Goals as goal

pub put_decimal-i-requires : goal.put_decimal-i-requires
unfolding line_of station_line
put_decimal-i-requires c = search room_first

pub put_coordinates-requires : goal.put_coordinates-requires
put_coordinates-requires c = search place_room

pub returns : goal.returns
returns c = search place_put
