-- `print` meets its contract: no room, the text of the sheet, or the line of its refusal.
use Rattle.std.proofs.Common.{rules}
use Rattle.desk.proofs.Printing.{text_length, text_over}
use Rattle.desk.proofs.Printing.{refusal_room, refusal_length, refusal_over}
use Rattle.desk.proofs.print.Goals as goal

pub put_count-requires : goal.put_count-requires
put_count-requires c = search (refusal_room, rules)

pub returns-in-Ok-clause-bytes : goal.returns-in-Ok-clause-bytes
returns-in-Ok-clause-bytes c =
    text_over _ _ c.if-out-lt-SHEET_BYTES.false _ _ c.in-Ok.ensures

pub returns-in-Ok-clause-long : goal.returns-in-Ok-clause-long
returns-in-Ok-clause-long c =
    text_length _ _ c.if-out-lt-SHEET_BYTES.false _ _ c.in-Ok.ensures

pub returns-in-Err-clause-bytes : goal.returns-in-Err-clause-bytes
returns-in-Err-clause-bytes c =
    refusal_over _ _ c.if-out-lt-SHEET_BYTES.false _ _ c.in-Err.ensures _ (search rules) _ _
    c.put_count.ensures

pub returns-in-Err-clause-long : goal.returns-in-Err-clause-long
returns-in-Err-clause-long c =
    refusal_length _ _ c.if-out-lt-SHEET_BYTES.false _ _ c.in-Err.ensures _ (search rules) _ _
    c.put_count.ensures
