-- `check_angles` meets its contract: the test of the misclosure decides between the refusal and the
-- balanced traverse.
use Rattle.desk.proofs.Carrying.{given_turned, closing_turned, legs_some, legs_few}
use Rattle.desk.proofs.Carrying.{all_turned, scaled, checked_good, checked_bad}
use borrow.Author.Rules.{rules}
use Rattle.desk.proofs.checking.check_angles.Goals as goal

pub misclosure_of-w-requires : goal.misclosure_of-w-requires
misclosure_of-w-requires c = (search closing_turned, search given_turned)

pub angles_close-requires : goal.angles_close-requires
angles_close-requires c = (search rules, search legs_some, search legs_few)

pub share_out-requires-clause-all_turned : goal.share_out-requires-clause-all_turned
share_out-requires-clause-all_turned c = search all_turned

pub share_out-requires-clause-scaled : goal.share_out-requires-clause-scaled
share_out-requires-clause-scaled c = search scaled

pub share_out-requires-clause-v_bound : goal.share_out-requires-clause-v_bound
share_out-requires-clause-v_bound c = (search rules, search legs_some, search legs_few)

pub returns-then-angles_close : goal.returns-then-angles_close
returns-then-angles_close c = search checked_good

pub returns : goal.returns
returns c = search checked_bad
