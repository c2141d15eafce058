-- `lend_on` meets its contract: the part from the place on, lent to the writer of the record's
-- kind, has room for the record, and comes back with it.
use Rattle.records.specs.Bytes.{bytes}
use Rattle.records.specs.Record.{rec_of, bytes_of, body_of}
use Rattle.records.proofs.Bodies.{project_feet}
use Rattle.writer.proofs.Ways.{lent, back}
use Rattle.writer.proofs.lend_on.Goals as goal

pub put_row-requires : goal.put_row-requires
unfolding rec_of bytes_of body_of bytes
put_row-requires c = search lent

pub put_project-requires-clause-project_kind_in_bounds :
    goal.put_project-requires-clause-project_kind_in_bounds
unfolding rec_of bytes_of body_of bytes
put_project-requires-clause-project_kind_in_bounds c = search lent

pub put_project-requires-clause-v_bound : goal.put_project-requires-clause-v_bound
unfolding rec_of bytes_of body_of bytes
put_project-requires-clause-v_bound c = search project_feet

pub put_start-requires : goal.put_start-requires
unfolding rec_of bytes_of body_of bytes
put_start-requires c = search lent

pub put_leg-requires : goal.put_leg-requires
unfolding rec_of bytes_of body_of bytes
put_leg-requires c = search lent

pub put_close-requires : goal.put_close-requires
unfolding rec_of bytes_of body_of bytes
put_close-requires c = search lent

pub returns-in-Row : goal.returns-in-Row
unfolding rec_of bytes_of body_of bytes
returns-in-Row c = search back

pub returns-in-Project : goal.returns-in-Project
unfolding rec_of bytes_of body_of bytes
returns-in-Project c = search back

pub returns-in-Start : goal.returns-in-Start
unfolding rec_of bytes_of body_of bytes
returns-in-Start c = search back

pub returns-in-Leg : goal.returns-in-Leg
unfolding rec_of bytes_of body_of bytes
returns-in-Leg c = search back

pub returns-in-Close : goal.returns-in-Close
unfolding rec_of bytes_of body_of bytes
returns-in-Close c = search back
