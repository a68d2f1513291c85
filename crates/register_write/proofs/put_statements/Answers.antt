-- `put_statements` puts line after line. The invariant: the lines passed are in the room.
use mathlib.Core.Path.{refl}
use Rattle.room_write.proofs.Writing.{put_none}
use Rattle.register.proofs.TextRows.{no_rows}
use Rattle.room_write.proofs.RowByRow.{row_put, rows_fit, row_fits}
use Rattle.register_write.proofs.put_statements.Goals as goal

pub loop-i-init : goal.loop-i-init
loop-i-init c = rw no_rows (put_none _ _)

pub put_statement-end-requires : goal.put_statement-end-requires
put_statement-end-requires c = row_fits _ _ _ _ _ c.loop-i-test.true c.requires c.loop-i.invariant c.loop-i.auto.room

pub loop-i-preserved : goal.loop-i-preserved
loop-i-preserved c = row_put _ _ _ _ (rows_fit _ _ _ _ _ c.loop-i-test.true c.requires) c.loop-i.invariant refl
    c.put_statement-end.ensures
