-- `put_statements` puts row after row. The invariant: the rows passed are in the room.
use mathlib.Core.Path.{refl, subst}
use native.Mathlib.Omega.{arith}
use Rattle.room_write.specs.Writing.{Put}
use Rattle.register.specs.Texts.{rows_to}
use Rattle.listing_row.specs.RegisterRows.{place_row}
use Rattle.room_write.proofs.Writing.{put_none}
use Rattle.register.proofs.TextRows.{no_rows}
use Rattle.room_write.proofs.RowByRow.{row_put, rows_fit, row_fits}
use Rattle.listing_write.specs.ListingParts.{statement_part}
use Rattle.listing_write.proofs.put_statements.Goals as goal

pub loop-x-init : goal.loop-x-init
loop-x-init c = rw (no_rows (place_row c.args.register.now)) (put_none c.args.room.now c.args.at)

pub put_statement-end-requires : goal.put_statement-end-requires
unfolding statement_part
put_statement-end-requires c = row_fits c.args.room.now c.args.at (place_row c.args.register.now) c.loop-x.x _ (omega arith)
    c.requires c.loop-x.invariant c.loop-x.auto.room

pub loop-x-preserved : goal.loop-x-preserved
unfolding statement_part
loop-x-preserved c = row_put c.args.room.now c.args.at (place_row c.args.register.now) c.loop-x.x
    (rows_fit c.args.room.now c.args.at (place_row c.args.register.now) c.loop-x.x _ (omega arith) c.requires)
    c.loop-x.invariant refl c.put_statement-end.ensures

pub returns : goal.returns
unfolding statement_part
returns c = subst (λ n. Put c.args.room.now c.args.at (rows_to n (place_row c.args.register.now)) c.loop-x.end c.loop-x.room)
    (omega arith) c.loop-x.invariant
