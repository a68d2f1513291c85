-- `put_objections` puts row after row. The invariant: the rows passed are in the room.
use mathlib.Core.Path.{refl, subst}
use native.Mathlib.Omega.{arith}
use Rattle.room_write.specs.Writing.{Put}
use Rattle.register.specs.Texts.{rows_to}
use Rattle.listing_row.specs.RegisterRows.{entry_row}
use Rattle.room_write.proofs.Writing.{put_none}
use Rattle.register.proofs.TextRows.{no_rows}
use Rattle.room_write.proofs.RowByRow.{row_put, rows_fit, row_fits}
use Rattle.listing_write.specs.ListingParts.{objection_part}
use Rattle.listing_write.proofs.put_objections.Goals as goal

pub loop-k-init : goal.loop-k-init
loop-k-init c = rw (no_rows (entry_row c.args.register.now)) (put_none c.args.room.now c.args.at)

pub put_entry-end-requires-clause-room_for : goal.put_entry-end-requires-clause-room_for
unfolding objection_part
put_entry-end-requires-clause-room_for c = row_fits c.args.room.now c.args.at (entry_row c.args.register.now) c.loop-k.k _
    (omega arith) c.requires.room_for c.loop-k.invariant c.loop-k.auto.room

pub loop-k-preserved : goal.loop-k-preserved
unfolding objection_part
loop-k-preserved c = row_put c.args.room.now c.args.at (entry_row c.args.register.now) c.loop-k.k
    (rows_fit c.args.room.now c.args.at (entry_row c.args.register.now) c.loop-k.k _ (omega arith) c.requires.room_for)
    c.loop-k.invariant refl c.put_entry-end.ensures

pub returns : goal.returns
unfolding objection_part
returns c = subst (λ m. Put c.args.room.now c.args.at (rows_to m (entry_row c.args.register.now)) c.loop-k.end c.loop-k.room)
    (omega arith) c.loop-k.invariant
