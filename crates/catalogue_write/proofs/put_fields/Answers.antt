-- `put_fields` walks along the chain of x. The invariant: the fields of x of the objections passed are in the room.
use mathlib.Core.Path.{sym, subst}
use Prim.Native.Nat.{◌-◌, ◌<◌}
use native.Mathlib.Omega.{arith}
use lib.ListN.{length}
use Rattle.room_write.specs.Writing.{RoomFor}
use Rattle.room_write.proofs.Writing.{put_none}
use Rattle.room_write.proofs.RowByRow.{row_put, rows_fit, row_fits}
use Rattle.catalogue_write.specs.CatalogueRows.{field_against}
use Rattle.catalogue_write.proofs.FieldWalk.{walk_begins, walk_field, walk_on}
use Rattle.catalogue_write.proofs.put_fields.Goals as goal

pub loop-c-init : goal.loop-c-init
loop-c-init c =
    let begun = walk_begins c.requires.chained.0 c.args.x c.requires.chained.1 c.from-c.ensures in
    record { reached = begun.0; put = rw begun.1 (put_none _ _) }

pub put_field-end-requires-clause-room_for : goal.put_field-end-requires-clause-room_for
put_field-end-requires-clause-room_for c =
    let e = length c.args.register.now.pairs.objectors.now - c.loop-c.c in
    let low : e < length c.args.register.now.pairs.objectors.now = omega (
      arith,
      c.loop-c.invariant.reached.low,
      c.requires.chained.0.copyable.paired,
      c.loop-c-test.true,
    ) in
    let row = field_against c.args.register.now.numbers.now c.args.register.now.pairs.objectors.now
    c.args.register.now.pairs.targets.now c.args.x in
    subst (RoomFor c.loop-c.room c.loop-c.end)
    (sym (walk_field c.requires.chained.0 c.args.x c.loop-c.invariant.reached c.loop-c-test.true))
    (row_fits c.args.room.now c.args.at row e _ low c.requires.room_for c.loop-c.invariant.put c.loop-c.auto.room)

pub loop-c-preserved : goal.loop-c-preserved
loop-c-preserved c =
    let e = length c.args.register.now.pairs.objectors.now - c.loop-c.c in
    let low : e < length c.args.register.now.pairs.objectors.now = omega (
      arith,
      c.loop-c.invariant.reached.low,
      c.requires.chained.0.copyable.paired,
      c.loop-c-test.true,
    ) in
    let row = field_against c.args.register.now.numbers.now c.args.register.now.pairs.objectors.now
    c.args.register.now.pairs.targets.now c.args.x in
    let fits = rows_fit c.args.room.now c.args.at row e _ low c.requires.room_for in
    let onward = walk_on c.requires.chained.0 c.args.x c.loop-c.invariant.reached c.loop-c-test.true c.args.room.now c.args.at
    c.from-c-in-loop-c.ensures (row_put c.args.room.now c.args.at row e fits c.loop-c.invariant.put
    (walk_field c.requires.chained.0 c.args.x c.loop-c.invariant.reached c.loop-c-test.true) c.put_field-end.ensures) in
    record { reached = onward.0; put = onward.1 }
