-- `sheet_in` meets its contract: no room, the refusal of a tape that does not read, or the sheet of
-- one that does.
use Rattle.std.proofs.Common.{rules}
use Rattle.std.proofs.lemmas.Result.{err_from_is_err_and}
use Rattle.desk.proofs.Stepping.{known_is}
use Rattle.desk.proofs.Paging.{no_room_lem, refused_showed}
use Rattle.desk.proofs.sheet_in.Goals as goal

pub returns-in_err-has_room : goal.returns-in_err-has_room
returns-in_err-has_room c =
    let p = err_from_is_err_and c.from_residual.result c.from_residual.ensures.1 in
    rw (p.1, p.2) (no_room_lem _ _ _ _ c.in_err-has_room.ensures.0 c.in_err-has_room.ensures.1)

pub returns-in_err-c : goal.returns-in_err-c
returns-in_err-c c =
    let r = c.from_residual-in_err-c in
    let p = err_from_is_err_and r.result r.ensures.1 in
    rw (p.1, p.2)
    (refused_showed _ _ _ c.in_ok-has_room.ensures _ c.take.ensures.is _ c.in_err-c.was)

pub compose-requires-clause-known : goal.compose-requires-clause-known
compose-requires-clause-known c = search (known_is, rules)
