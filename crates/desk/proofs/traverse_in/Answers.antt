-- `traverse_in` meets its contract: the room, then the reading, then the two steps.
use Rattle.std.proofs.Common.{rules}
use Rattle.desk.proofs.Stepping.{short_told, short_words, refused_told, refused_words}
use Rattle.desk.proofs.Stepping.{known_is, known_told, known_words}
use Rattle.desk.proofs.traverse_in.Goals as goal

pub returns-in_err-has_room-clause-answer : goal.returns-in_err-has_room-clause-answer
returns-in_err-has_room-clause-answer c = search (short_told, rules)

pub returns-in_err-has_room-clause-words : goal.returns-in_err-has_room-clause-words
returns-in_err-has_room-clause-words c = search (short_words, rules)

pub returns-in_err-c-clause-answer : goal.returns-in_err-c-clause-answer
returns-in_err-c-clause-answer c = search (refused_told, rules)

pub returns-in_err-c-clause-words : goal.returns-in_err-c-clause-words
returns-in_err-c-clause-words c = search (refused_words, rules)

pub work-requires-clause-known : goal.work-requires-clause-known
work-requires-clause-known c = search (known_is, rules)

pub returns-clause-answer : goal.returns-clause-answer
returns-clause-answer c = search (known_told, known_is, rules)

pub returns-clause-words : goal.returns-clause-words
returns-clause-words c = search (known_words, known_is, rules)
