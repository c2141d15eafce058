-- `good_offsets` meets its contract: `all` is the test of the definition, word by word.
use mathlib.Core.Path.{◌∙◌}
use borrow.Author.Tests.{tests}
use Rattle.std.proofs.Common.{rules}
use Rattle.std.proofs.lemmas.Iterator.{YieldsList-from_slice}
use Rattle.std.proofs.lemmas.Iterator.Search.{all_from_yields_List}
use Rattle.steps.proofs.Areas.{small, all_good}
use Rattle.steps.proofs.area.good_offsets.Goals as goal

pub returns : goal.returns
returns c =
    let l = c.args.offsets.now in
    all_from_yields_List small _ _ c.all.result c.all.ensures.ran (YieldsList-from_slice l cc)
    (λ x b q k. search (rules, tests)) ∙ all_good l
