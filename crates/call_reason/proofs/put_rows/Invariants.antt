-- `put_rows` puts row after row. The invariant: the rows passed are in the room.
use Rattle.room_write.specs.Writing.{Put}
use Rattle.register.specs.Texts.{rows_to}
use Rattle.call_reason.specs.ReasonRows.{chosen_at}
use Rattle.call_reason.proofs.put_rows.Given as goal

abbrev pub invariant-loop-k : goal.invariant-loop-k
invariant-loop-k l = Put l.initial.room l.at (rows_to l.k (chosen_at l.register l.inside)) l.end l.room
