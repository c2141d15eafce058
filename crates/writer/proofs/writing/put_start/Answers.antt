-- `put_start` meets its contract: the kind's byte, then each field after the one before.
use mathlib.Core.List.{[], ◌∷◌}
use lib.IntN.{pos}
use lib.Seq.{sets-eq}
use Rattle.records.specs.Bytes.{bytes, written}
use Rattle.records.specs.Record.{start_kind, body_of, bytes_of}
use Rattle.writer.proofs.writing.put_start.Goals as goal

pub returns : goal.returns
unfolding body_of bytes_of bytes written
returns c =
    let a = c.args in
    let fields = pos a.northing ∷ pos a.easting ∷ pos a.mark ∷ [] in
    rw (
      c.put-3.ensures,
      c.put-2.ensures,
      c.put.ensures,
      c.put_kind.ensures,
      c.to_be_bytes.ensures,
      c.to_be_bytes-2.ensures,
      c.to_be_bytes-3.ensures,
    )
    (sets-eq (bytes_of start_kind fields) a.out.now 0 c.requires)
