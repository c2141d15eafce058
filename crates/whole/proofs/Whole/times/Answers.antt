-- `Whole::times` meets its contract: below the two bounds the product passes through its bits
-- unchanged, and is small.
use Rattle.std.proofs.Common.{rules}
use Rattle.whole.proofs.Machine.{product_is, product_size}
use Rattle.whole.proofs.Whole.times.Goals as goal

pub returns-clause-is : goal.returns-clause-is
returns-clause-is c = search (product_is, rules)

pub returns-clause-size : goal.returns-clause-size
returns-clause-size c = search (product_size, rules)
