use Rattle.desk.proofs.lines.StationLines.{lines_first, line_room, lines_next}
use Rattle.desk.proofs.lines.put_stations.Goals as goal

pub loop-k-init : goal.loop-k-init
loop-k-init c = search lines_first

pub put_station-i-requires-clause-room : goal.put_station-i-requires-clause-room
put_station-i-requires-clause-room c = search line_room

pub loop-k-preserved : goal.loop-k-preserved
loop-k-preserved c = search lines_next
