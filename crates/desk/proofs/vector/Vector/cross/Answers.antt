-- `cross` meets its contract: four sides in range have products, and a difference of products,
-- that fit.
use Rattle.steps.proofs.Areas.{cross_size}
use Rattle.desk.proofs.vector.Vector.cross.Goals as goal

pub returns-clause-size : goal.returns-clause-size
returns-clause-size c = search cross_size
