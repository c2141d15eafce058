-- `settle` meets its contract: the test decides between the refusal and the answer, and the words
-- are written after it.
use Rattle.sines.proofs.Own.{lent_entries}
use Rattle.desk.proofs.Settling.{end_small, closure_within, run_far, run_most_left, shared, near}
use Rattle.desk.proofs.Settling.{closure_far, words_near, words_far}
use Rattle.desk.proofs.Stations.{passed_words, passed_told}
use Rattle.desk.proofs.adjusting.settle.Goals as goal

pub closing-c-requires : goal.closing-c-requires
closing-c-requires c = search (end_small, lent_entries) fits 5000

pub within_limit-requires-clause-at_within : goal.within_limit-requires-clause-at_within
within_limit-requires-clause-at_within c = search (closure_within, lent_entries) fits 5000

pub within_limit-requires-clause-le_distance : goal.within_limit-requires-clause-le_distance
within_limit-requires-clause-le_distance c =
    (search (run_far, lent_entries), search (run_most_left, lent_entries))

pub adjust_all-requires-clause-area_ranged : goal.adjust_all-requires-clause-area_ranged
adjust_all-requires-clause-area_ranged c = search (passed_words, lent_entries) fits 5000

pub adjust_all-requires-clause-near : goal.adjust_all-requires-clause-near
adjust_all-requires-clause-near c = search (near, lent_entries) fits 5000

pub adjust_all-requires-clause-shared : goal.adjust_all-requires-clause-shared
adjust_all-requires-clause-shared c = search (shared, lent_entries) fits 5000

pub returns-then-within_limit-clause-answer : goal.returns-then-within_limit-clause-answer
returns-then-within_limit-clause-answer c = search (passed_told, lent_entries) fits 5000

pub returns-then-within_limit-clause-words : goal.returns-then-within_limit-clause-words
returns-then-within_limit-clause-words c = search (words_near, lent_entries) fits 5000

pub returns-clause-answer : goal.returns-clause-answer
returns-clause-answer c = search (closure_far, lent_entries) fits 5000

pub returns-clause-words : goal.returns-clause-words
returns-clause-words c = search (words_far, lent_entries) fits 5000
