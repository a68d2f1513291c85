-- `put_statements` puts row after row. The invariant: the rows passed are in the room.
use Rattle.room_write.specs.Writing.{Put}
use Rattle.register.specs.Texts.{rows_to}
use Rattle.listing_row.specs.RegisterRows.{place_row}
use Rattle.listing_write.proofs.put_statements.Given as goal

abbrev pub invariant-loop-x : goal.invariant-loop-x
invariant-loop-x l = Put l.initial.room l.at (rows_to l.x (place_row l.register)) l.end l.room
