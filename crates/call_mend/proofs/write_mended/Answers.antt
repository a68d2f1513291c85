-- `write_mended` asks for both sizes before anything is written.
use native.Mathlib.Omega.{arith}
use Rattle.call_mend.proofs.MendGiven.{size_small, report_size_small, room_short, report_room_short, both_written}
use Rattle.call_mend.proofs.write_mended.Goals as goal

pub returns-then-room-size : goal.returns-then-room-size
returns-then-room-size c = λ ls m. room_short ls c.args.mended.now m c.args.room.now c.args.report.now
    c.args.report_written.now c.register_size-size.result c.register_size-size.ensures c.if-room-size.true

pub returns-then-report-report_size : goal.returns-then-report-report_size
returns-then-report-report_size c = λ ls m. report_room_short ls c.args.mended.now m c.args.room.now c.args.report.now
    c.args.report_written.now c.register_size-size.result c.register_size-size.ensures
    c.report_size-report_size.result c.report_size-report_size.ensures c.if-report-report_size.true

pub overflow_cast-report_written : goal.overflow_cast-report_written
overflow_cast-report_written c = omega (
  arith,
  report_size_small c.requires.0 c.args.mended.now c.requires.1 c.args.room.now c.args.report.now c.args.report_written.now
      c.register_size-size.result
      c.register_size-size.ensures c.report_size-report_size.result c.report_size-report_size.ensures,
)

pub overflow_cast-result : goal.overflow_cast-result
overflow_cast-result c = omega (
  arith,
  size_small c.requires.0 c.args.mended.now c.requires.1 c.args.room.now c.args.report.now c.args.report_written.now
      c.register_size-size.result c.register_size-size.ensures,
)

pub returns : goal.returns
returns c = λ ls m. both_written ls c.args.mended.now m c.args.room.now c.args.report.now
    c.args.report_written.now c.register_size-size.result c.register_size-size.ensures c.report_size-report_size.result
    c.report_size-report_size.ensures c.if-room-size.false c.if-report-report_size.false _ _ c.put_register.ensures
    c.put_report.ensures
