-- `put_report` puts row after row. The invariant: the rows of the lines passed are in the room.
use Rattle.room_write.specs.Writing.{Put}
use Rattle.register.specs.Texts.{rows_to}
use Rattle.mend_report.proofs.NumberedReport.{row_at}
use Rattle.mend_report.proofs.put_report.Given as goal

abbrev pub invariant-loop-k : goal.invariant-loop-k
invariant-loop-k l = Put l.initial.room 0 (rows_to l.k (row_at l.fates)) l.end l.room
