-- `put_entry` looks up the numbers and the kind of one objection, and puts its row.
use mathlib.Core.Path.{ap, subst}
use native.Mathlib.Omega.{arith}
use lib.ListN.{length}
use Rattle.room_write.specs.Writing.{Put}
use Rattle.listing_row.proofs.RegisterRows.{entry_told}
use Rattle.listing_row.proofs.put_entry.Goals as goal

pub put_objection-requires : goal.put_objection-requires
put_objection-requires c = omega (
  arith,
  c.requires.room_for,
  ap length (entry_told c.args.register.now c.requires.are_labelled.0 c.args.k c.kind_at-kind.result c.requires.are_labelled.1
      c.kind_at-kind.ensures),
)

pub returns : goal.returns
returns c = subst (λ u. Put c.args.room.now c.args.at u c.put_objection.result c.put_objection.new.room)
    (entry_told c.args.register.now c.requires.are_labelled.0 c.args.k c.kind_at-kind.result c.requires.are_labelled.1
    c.kind_at-kind.ensures)
    c.put_objection.ensures
