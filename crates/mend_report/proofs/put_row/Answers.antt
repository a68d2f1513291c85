-- `put_row` puts the pieces of a row one behind the other.
use Rattle.mend_report.proofs.ReportPut.{pieces_put}
use Rattle.mend_report.proofs.put_row.Goals as goal

pub returns : goal.returns
returns c = pieces_put c.args.line c.args.fate c.args.room.now c.args.at c.requires
    c.put_decimal-word.ensures c.put_fate-cause.ensures (rw c.from.ensures at c.put_decimal-row_end.ensures) c.put_word.ensures
