-- `put_rows` puts row after row. The invariant: the rows passed are in the room.
use mathlib.Core.Path.{sym, subst}
use native.Mathlib.Omega.{arith}
use Rattle.room_write.specs.Writing.{RoomFor, Put}
use Rattle.room_write.proofs.Writing.{put_none}
use Rattle.register.proofs.TextRows.{no_rows}
use Rattle.room_write.proofs.RowByRow.{row_put, rows_fit, row_fits}
use Rattle.call_reason.proofs.ReasonRows.{chosen_row, passed_row, chosen_all, chosen_fits}
use Rattle.call_reason.proofs.put_rows.Goals as goal
use Rattle.call_reason.proofs.put_rows.Goals.{then-tick-ne0, else-tick-ne0}

pub loop-k-init : goal.loop-k-init
loop-k-init c = rw no_rows (put_none _ _)

pub put_entry-end-requires-clause-room_for : goal.put_entry-end-requires-clause-room_for
put_entry-end-requires-clause-room_for c =
    subst (RoomFor c.loop-k.room c.loop-k.end)
    (sym (chosen_row c.args.register.now c.args.inside.now c.loop-k.k c.if-tick-ne0.true))
    (row_fits _ _ _ _ _ c.loop-k-test.true
    (chosen_fits c.args.register.now c.args.inside.now _ _ _ c.requires.labelled.1 c.requires.room_for)
    c.loop-k.invariant c.loop-k.auto.room)

pub loop-k-preserved : goal.loop-k-preserved
loop-k-preserved c =
    let fits = rows_fit _ _ _ _ _ c.loop-k-test.true
    (chosen_fits c.args.register.now c.args.inside.now _ _ _ c.requires.labelled.1 c.requires.room_for) in
    elim c.if-tick-ne0.branch [
      | then-tick-ne0 w ↦ rw (w.room-is, w.end-is) (row_put _ _ _ _ fits c.loop-k.invariant
          (chosen_row c.args.register.now c.args.inside.now c.loop-k.k w.if-tick-ne0.true) w.put_entry-end.ensures)
      | else-tick-ne0 w ↦ rw (w.room-is, w.end-is) (row_put _ _ _ _ fits c.loop-k.invariant
          (passed_row c.args.register.now c.args.inside.now c.loop-k.k w.if-tick-ne0.false) (put_none c.loop-k.room c.loop-k.end))
    ]

pub returns : goal.returns
returns c = subst (λ u. Put c.args.room.now c.args.at u c.loop-k.end c.loop-k.room)
    (chosen_all c.args.register.now c.args.inside.now c.loop-k.k (omega arith)) c.loop-k.invariant
