-- `control` meets its contract: it takes each field from the place where the last state and the
-- tape's length say that it stands, and the tape is as long as that needs.
use native.Mathlib.Omega.{arith}
use Rattle.records.specs.Record.{body_of}
use Rattle.tape.proofs.Standing.{control_is}
use Rattle.tape.proofs.taking.control.Goals as goal

pub returns : goal.returns
unfolding body_of
returns c =
    control_is _ _ c.requires _ _ _ _ _ _ _ _ _ _ _ _ _ _ c.place_after-project.ensures
    (omega arith) (omega arith) (omega arith) c.place_after-row.ensures c.two_at-latitude.ensures.0
    c.signed_at.ensures.is c.four_at.ensures c.four_at-2.ensures c.four_at-3.ensures
    c.four_at-4.ensures c.four_at-5.ensures c.four_at-6.ensures c.four_at-7.ensures
