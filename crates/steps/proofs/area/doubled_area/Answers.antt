-- `doubled_area` meets its contract: each test is a bound of the range, and in range the sum is the
-- rule.
use borrow.Author.Tests.{eq-eqb, ne_eqb}
use Rattle.std.proofs.Common.{rules}
use Rattle.answer.proofs.Telling.{ranges, flag_yes, flag_no}
use Rattle.steps.proofs.Ranges.{outside}
use Rattle.steps.proofs.area.doubled_area.Goals as goal
use Rattle.steps.proofs.area.doubled_area.Goals.{then-words-ne0-via-then-words-ne0}
use Rattle.steps.proofs.area.doubled_area.Goals.{
  then-words-ne0-via-else-words-ne0+then-not-good_offsets,
}

pub returns-in_err-inside : goal.returns-in_err-inside
returns-in_err-inside c = search (rules, outside, ranges) depth 9

pub returns-then-words-ne0 : goal.returns-then-words-ne0
returns-then-words-ne0 c =
    elim c.then-words-ne0.branch [
      | then-words-ne0-via-then-words-ne0 w ↦ search (rules, ne_eqb, ranges) depth 9
      | then-words-ne0-via-else-words-ne0+then-not-good_offsets w ↦
          search (rules, flag_no, ranges) depth 9
    ]

pub returns : goal.returns
returns c = search (rules, flag_yes, eq-eqb, ranges) depth 9
