-- `compose` meets its contract: what the two steps answer, and the words that they leave, are
-- shown.
use Rattle.std.proofs.lemmas.Result.{err_from_is_err_and}
use Rattle.sines.proofs.Own.{lent_entries}
use Rattle.desk.proofs.Paging.{stopped_showed, legs_few, text_room, text_showed}
use Rattle.desk.proofs.compose.Goals as goal

pub returns-in_err-figures : goal.returns-in_err-figures
returns-in_err-figures c =
    let p = err_from_is_err_and c.from_residual.result c.from_residual.ensures.1 in
    rw (p.1, p.2) (search (stopped_showed, c.in_err-figures.ensures))

pub put_all-requires-clause-legs_le_most_legs : goal.put_all-requires-clause-legs_le_most_legs
put_all-requires-clause-legs_le_most_legs c =
    search (legs_few, lent_entries, c.in_ok-figures.ensures)

pub put_all-requires-clause-room : goal.put_all-requires-clause-room
put_all-requires-clause-room c = search (text_room, lent_entries, c.in_ok-figures.ensures)

pub returns : goal.returns
returns c = search (text_showed, lent_entries, c.in_ok-figures.ensures)
