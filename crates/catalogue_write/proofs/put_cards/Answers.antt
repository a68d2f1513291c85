-- `put_cards` puts card after card. The invariant: the cards passed are in the room.
use mathlib.Core.Path.{refl}
use Rattle.room_write.proofs.Writing.{put_none}
use Rattle.register.proofs.TextRows.{no_rows}
use Rattle.room_write.proofs.RowByRow.{row_put, rows_fit, row_fits}
use Rattle.catalogue_write.proofs.put_cards.Goals as goal

pub loop-x-init : goal.loop-x-init
loop-x-init c = rw no_rows (put_none _ _)

pub put_card-end-requires-clause-room_for : goal.put_card-end-requires-clause-room_for
put_card-end-requires-clause-room_for c = row_fits _ _ _ _ _ c.loop-x-test.true c.requires.room_for c.loop-x.invariant
    c.loop-x.auto.room

pub loop-x-preserved : goal.loop-x-preserved
loop-x-preserved c = row_put _ _ _ _ (rows_fit _ _ _ _ _ c.loop-x-test.true c.requires.room_for) c.loop-x.invariant refl
    c.put_card-end.ensures
