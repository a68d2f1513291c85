-- `put_fields` walks along the chain of x. The invariant: the fields of x of the objections passed are in the room.
use Prim.Native.Nat.{◌-◌}
use lib.ListN.{length}
use Rattle.room_write.specs.Writing.{Put}
use Rattle.register.specs.Texts.{rows_to}
use Rattle.catalogue_write.specs.CatalogueRows.{field_against}
use Rattle.catalogue_write.proofs.FieldWalk.{Reached}
use Rattle.catalogue_write.proofs.put_fields.Given as goal

abbrev pub invariant-loop-c : goal.invariant-loop-c
invariant-loop-c l = record {
  reached : Reached l.register.pairs.targets.now l.x l.c;
  put :
      Put l.initial.room l.at (rows_to (length l.register.pairs.objectors.now - l.c)
      (field_against l.register.numbers.now l.register.pairs.objectors.now l.register.pairs.targets.now l.x)) l.end l.room;
}

abbrev pub decreases-loop-c : goal.decreases-loop-c
decreases-loop-c l = l.c
