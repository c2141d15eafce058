use Rattle.steps.proofs.root.ByDigits.{digit_found}
use Rattle.steps.proofs.root.Working.digit.Goals as goal

pub returns-clause-is : goal.returns-clause-is
returns-clause-is c = search digit_found
