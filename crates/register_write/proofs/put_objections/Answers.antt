-- `put_objections` puts line after line. The invariant: the lines passed are in the room.
use mathlib.Core.Path.{refl}
use Rattle.room_write.proofs.Writing.{put_none}
use Rattle.register.proofs.TextRows.{no_rows}
use Rattle.room_write.proofs.RowByRow.{row_put, rows_fit, row_fits}
use Rattle.register_write.proofs.put_objections.Goals as goal

pub loop-k-init : goal.loop-k-init
loop-k-init c = rw no_rows (put_none _ _)

pub put_objection-end-requires : goal.put_objection-end-requires
put_objection-end-requires c = (
  c.loop-k-test.true,
  row_fits _ _ _ _ _ c.loop-k-test.true c.requires c.loop-k.invariant c.loop-k.auto.room,
)

pub loop-k-preserved : goal.loop-k-preserved
loop-k-preserved c = row_put _ _ _ _ (rows_fit _ _ _ _ _ c.loop-k-test.true c.requires) c.loop-k.invariant refl
    c.put_objection-end.ensures
