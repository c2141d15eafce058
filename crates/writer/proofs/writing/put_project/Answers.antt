-- `put_project` meets its contract: the kind's byte, then each field after the one before.
use mathlib.Core.List.{[], ◌∷◌}
use lib.IntN.{pos}
use lib.Seq.{sets-eq}
use Rattle.records.specs.Bytes.{bytes, written}
use Rattle.records.specs.Record.{project_kind, body_of, bytes_of}
use Rattle.writer.proofs.writing.Stores.{elevation_bits}
use Rattle.writer.proofs.writing.put_project.Goals as goal

pub returns : goal.returns
unfolding body_of bytes_of bytes
returns c =
    let a = c.args in
    let room = c.requires.project_kind_in_bounds in
    rw (
      c.put-2.ensures,
      c.put.ensures,
      c.put_kind.ensures,
      c.to_be_bytes.ensures,
      c.to_be_bytes-2.ensures,
      elevation_bits a.elevation.v c.requires.v_bound,
    )
    (unfold written in
    (sets-eq (bytes_of project_kind (pos a.latitude ∷ a.elevation.v ∷ [])) a.out.now 0 room))
