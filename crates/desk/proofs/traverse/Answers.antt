-- `traverse` meets its contract: the entries of the table that it lends are the rules'.
use Rattle.desk.proofs.OwnTable.{own_told, own_words_lem}
use Rattle.desk.proofs.traverse.Goals as goal

pub returns-clause-answer : goal.returns-clause-answer
returns-clause-answer c = search own_told

pub returns-clause-words : goal.returns-clause-words
returns-clause-words c = search own_words_lem
