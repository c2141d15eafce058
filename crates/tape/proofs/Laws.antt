-- The laws that each function of the reader is told of, by which the check proves it.
use Rattle.records.proofs.Bodies.{tests}
use Rattle.tape.proofs.order.Parts.{rows_begin, rows_cut, rows_full, more_after, all_read}
use Rattle.tape.proofs.order.Passing.{row_first, row_next_lem, row_out, row_bad, no_project}
use Rattle.tape.proofs.order.Passing.{project_short, project_bad, no_row, no_start}
use Rattle.tape.proofs.order.Passing.{start_short, start_bad, start_passes, leg_room, leg_there}
use Rattle.tape.proofs.order.Passing.{leg_full, leg_short, leg_bad, leg_passes, no_close}
use Rattle.tape.proofs.order.Passing.{close_early, close_short, close_bad, close_passes}

-- ---- a record
pub ruleset row = (tests, row_first, row_next_lem, row_out, row_bad)

pub ruleset project = (tests, no_project, project_short, project_bad, no_row)

pub ruleset start = (tests, no_start, start_short, start_bad, start_passes)

pub ruleset leg_good = (leg_room, leg_there)

pub ruleset leg = (tests, leg_full, leg_short, leg_bad, leg_passes)

pub ruleset close = (tests, no_close, close_early, close_short, close_bad, close_passes)

-- ---- the parts of a tape
pub ruleset rows = (tests, rows_begin, rows_cut, rows_full)

pub ruleset finish = (tests, more_after, all_read)
