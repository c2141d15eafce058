use Rattle.sines.proofs.Own.{lent_entries}
use Rattle.desk.proofs.Running.{leg_sound, room_on, sums_first, sums_on, sums_last}
use Rattle.desk.proofs.Running.{kept_first, kept_on, kept_last}
use Rattle.desk.proofs.legs.run_all.Goals as goal

pub loop-k-init : goal.loop-k-init
loop-k-init c = record { sums = search sums_first; kept = search kept_first }

pub advance-s-requires-clause-leg_sound : goal.advance-s-requires-clause-leg_sound
advance-s-requires-clause-leg_sound c = search leg_sound

pub advance-s-requires-clause-room_for_leg : goal.advance-s-requires-clause-room_for_leg
advance-s-requires-clause-room_for_leg c = search (room_on, lent_entries)

pub loop-k-preserved : goal.loop-k-preserved
loop-k-preserved c = record { sums = search sums_on; kept = search kept_on }

pub returns-clause-kept : goal.returns-clause-kept
returns-clause-kept c = search kept_last

pub returns-clause-end : goal.returns-clause-end
returns-clause-end c = search sums_last
