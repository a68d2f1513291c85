-- `put_cards` puts card after card. The invariant: the cards passed are in the room.
use Rattle.room_write.specs.Writing.{Put}
use Rattle.register.specs.Texts.{rows_to}
use Rattle.catalogue_write.specs.CatalogueRows.{register_card}
use Rattle.catalogue_write.proofs.put_cards.Given as goal

abbrev pub invariant-loop-x : goal.invariant-loop-x
invariant-loop-x l = Put l.initial.room 0 (rows_to l.x (register_card l.register)) l.end l.room
