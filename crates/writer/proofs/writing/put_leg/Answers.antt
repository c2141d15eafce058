-- `put_leg` meets its contract: the kind's byte, then each field after the one before.
use mathlib.Core.List.{[], ◌∷◌}
use lib.IntN.{pos}
use lib.Seq.{sets-eq}
use Rattle.records.specs.Bytes.{bytes, written}
use Rattle.records.specs.Record.{leg_kind, body_of, bytes_of}
use Rattle.writer.proofs.writing.put_leg.Goals as goal

pub returns : goal.returns
unfolding body_of bytes_of bytes written
returns c =
    let a = c.args in
    rw (
      c.put-2.ensures,
      c.put.ensures,
      c.put_kind.ensures,
      c.to_be_bytes.ensures,
      c.to_be_bytes-2.ensures,
    )
    (sets-eq (bytes_of leg_kind (pos a.angle ∷ pos a.distance ∷ [])) a.out.now 0 c.requires)
