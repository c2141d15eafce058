-- `angles_close` meets its contract: the step tells whether the test passes, since W and n are in
-- range.
use Rattle.desk.proofs.Balancing.{verdict_there, angles_close}
use Rattle.desk.proofs.angles.angles_close.Goals as goal

pub unwrap-requires : goal.unwrap-requires
unwrap-requires c = search verdict_there

pub returns : goal.returns
returns c = search angles_close
