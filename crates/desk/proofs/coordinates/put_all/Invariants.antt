-- `put_all` meets its contract. The loop's invariant: the words have the stations before the one
-- reached.
use mathlib.Core.Path.{◌≡◌}
use Rattle.desk.specs.Inside.{put_to}
use Rattle.desk.proofs.coordinates.put_all.Given as goal

abbrev pub invariant-loop-k : goal.invariant-loop-k
invariant-loop-k l = l.words ≡ put_to l.kept l.c l.k l.initial.words
