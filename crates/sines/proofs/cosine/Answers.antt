-- `cosine` meets its contract: by the desk's own table the cosine is the rules'.
use Rattle.sines.proofs.Own.{own_cosine}
use Rattle.sines.proofs.cosine.Goals as goal

pub returns : goal.returns
returns c = search own_cosine
