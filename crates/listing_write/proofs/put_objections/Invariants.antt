-- `put_objections` puts row after row. The invariant: the rows passed are in the room.
use Rattle.room_write.specs.Writing.{Put}
use Rattle.register.specs.Texts.{rows_to}
use Rattle.listing_row.specs.RegisterRows.{entry_row}
use Rattle.listing_write.proofs.put_objections.Given as goal

abbrev pub invariant-loop-k : goal.invariant-loop-k
invariant-loop-k l = Put l.initial.room l.at (rows_to l.k (entry_row l.register)) l.end l.room
