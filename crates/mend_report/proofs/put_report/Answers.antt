-- `put_report` puts row after row. The invariant: the rows of the lines passed are in the room.
use mathlib.Core.Path.{sym, subst}
use native.Mathlib.Omega.{arith}
use Rattle.room_write.specs.Writing.{RoomFor, Put}
use Rattle.room_write.proofs.Writing.{put_none, put_start}
use Rattle.register.proofs.TextRows.{no_rows}
use Rattle.room_write.proofs.RowByRow.{row_put, rows_fit, row_fits}
use Rattle.mend_report.specs.NumberedReport.{numbered_report}
use Rattle.mend_report.proofs.NumberedReport.{told_row, kept_row, report_all}
use Rattle.mend_report.proofs.ReportPut.{report_fits}
use Rattle.mend_report.proofs.put_report.Goals as goal
use Rattle.mend_report.proofs.put_report.Goals.{then-fate-ne0, else-fate-ne0}

pub loop-k-init : goal.loop-k-init
loop-k-init c = rw no_rows (put_none _ _)

pub put_row-end-requires : goal.put_row-end-requires
put_row-end-requires c =
    subst (RoomFor c.loop-k.room c.loop-k.end) (sym (told_row c.args.fates.now c.loop-k.k c.if-fate-ne0.true))
    (row_fits _ _ _ _ _ c.loop-k-test.true (report_fits c.args.fates.now c.args.room.now c.requires.1) c.loop-k.invariant
    c.loop-k.auto.room)

pub loop-k-preserved : goal.loop-k-preserved
loop-k-preserved c =
    let fits = rows_fit _ _ _ _ _ c.loop-k-test.true (report_fits c.args.fates.now c.args.room.now c.requires.1) in
    elim c.if-fate-ne0.branch [
      | then-fate-ne0 w ↦ rw (w.room-is, w.end-is) (row_put _ _ _ _ fits c.loop-k.invariant
          (told_row c.args.fates.now c.loop-k.k w.if-fate-ne0.true) w.put_row-end.ensures)
      | else-fate-ne0 w ↦ rw (w.room-is, w.end-is) (row_put _ _ _ _ fits c.loop-k.invariant
          (kept_row c.args.fates.now c.loop-k.k w.if-fate-ne0.false) (put_none c.loop-k.room c.loop-k.end))
    ]

pub returns : goal.returns
returns c = (put_start c.args.room.now (numbered_report c.args.fates.now)
    (subst (λ u. Put c.args.room.now 0 u c.loop-k.end c.loop-k.room)
    (report_all c.args.fates.now c.loop-k.k (omega arith)) c.loop-k.invariant)).1
