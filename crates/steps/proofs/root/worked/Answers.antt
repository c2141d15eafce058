use Rattle.std.proofs.Common.{rules}
use Rattle.steps.proofs.root.ByDigits.{brought_first, brought_next, brought_all}
use Rattle.steps.proofs.root.ByDigits.{brought_root, brought_remainder}
use Rattle.steps.proofs.root.worked.Goals as goal

pub loop-init : goal.loop-init
loop-init c = search brought_first

pub with_pair-w-requires : goal.with_pair-w-requires
with_pair-w-requires c = (search brought_root, search brought_remainder, search rules)

pub loop-preserved : goal.loop-preserved
loop-preserved c = search (rules, brought_next)

pub returns : goal.returns
returns c = search (rules, brought_all)
