-- `sine` meets its contract: by the desk's own table the sine is the rules'.
use Rattle.sines.proofs.Own.{own_sine}
use Rattle.sines.proofs.sine.Goals as goal

pub returns : goal.returns
returns c = search own_sine
