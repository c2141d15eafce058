-- `cross` meets its contract: four offsets in range have products, and a difference of products,
-- that fit.
use Rattle.steps.specs.Area.{cross}
use Rattle.steps.proofs.Areas.{cross_size}
use Rattle.steps.proofs.area.Loop.cross.Goals as goal

pub returns-clause-is : goal.returns-clause-is
unfolding cross
returns-clause-is c = cc

pub returns-clause-size : goal.returns-clause-size
returns-clause-size c =
    let here = c.station-here.result in
    let there = c.station-there.result in
    let a = c.station-here.ensures.size in
    let b = c.station-there.ensures.size in
    cross_size _ _ _ here.north.v there.east.v there.north.v here.east.v c.minus.ensures.size
    c.times-ahead.ensures.is c.times-back.ensures.is a.0 b.1 b.0 a.1
