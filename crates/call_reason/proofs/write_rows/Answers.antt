-- `write_rows` counts before it writes, so that a room that is too short stays as found.
use native.Mathlib.Omega.{arith}
use Rattle.call_reason.proofs.ReasonRows.{rows_sum, rows_few, rows_put}
use Rattle.call_reason.proofs.write_rows.Goals as goal

pub overflow_add-size : goal.overflow_add-size
overflow_add-size c = omega (
  arith,
  rows_sum c.args.register.now c.args.inside.now c.args.x _ _ c.statement_size.ensures c.rows_size.ensures,
  rows_few c.args.register.now c.args.inside.now c.args.x,
)

pub overflow_cast-result : goal.overflow_cast-result
overflow_cast-result c = omega (
  arith,
  rows_sum c.args.register.now c.args.inside.now c.args.x _ _ c.statement_size.ensures c.rows_size.ensures,
  rows_few c.args.register.now c.args.inside.now c.args.x,
)

pub returns : goal.returns
returns c =
    let sum = rows_sum c.args.register.now c.args.inside.now c.args.x _ _ c.statement_size.ensures c.rows_size.ensures in (
      sum,
      omega (arith, sum, c.if-room-size.false),
      rows_put c.args.register.now c.args.inside.now c.args.x c.args.room.now (omega (arith, sum, c.if-room-size.false))
          c.put_statement-end.ensures c.put_rows.ensures,
    )
