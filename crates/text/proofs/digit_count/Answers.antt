-- `digit_count` meets its contract: a number between two powers of ten has as many digits as the
-- higher one has zeros.
use Rattle.text.proofs.Digits.{count_by_power}
use Rattle.text.proofs.digit_count.Goals as goal

pub returns : goal.returns
returns c = search count_by_power
