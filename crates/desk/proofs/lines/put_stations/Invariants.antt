-- `put_stations` meets its contract. The loop's invariant: the lines of the first k stations are
-- put.
use Rattle.text.specs.Room.{Put}
use Rattle.desk.specs.Sheet.{station_lines}
use Rattle.desk.proofs.lines.put_stations.Given as goal

abbrev pub invariant-loop-k : goal.invariant-loop-k
invariant-loop-k l = Put l.initial.out l.at (station_lines l.words l.k) l.out l.i
