-- What is written is what is printed of the bytes that were read, and so of the whole input.
use Rattle.std.proofs.Common.{rules, take, replicate}
use Rattle.desk.specs.Sheet.{sheet_bytes}
use Rattle.sheet.proofs.Printed.{read_enough, front_printed, appends_printed}
use Rattle.sheet.proofs.print.Goals as goal

pub returns : goal.returns
returns g c =
    let read = c.in_ok-n.ensures in
    let front =
    front_printed (take c.in_ok-n.n c.read_full.new.room) (replicate sheet_bytes 0)
    c.print-k.new.out c.print-k.result (search rules) c.print-k.ensures.long
    c.print-k.ensures.bytes in
    let whole =
    read_enough _ _ c.read_full.new.room c.in_ok-n.n (search rules) read.count.0 read.bytes
    read.end in
    appends_printed _ _ _ _ _ _ c.write_all.ensures.bytes front whole
