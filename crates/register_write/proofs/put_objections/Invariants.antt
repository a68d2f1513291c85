-- `put_objections` puts line after line. The invariant: the lines passed are in the room.
use Rattle.room_write.specs.Writing.{Put}
use Rattle.register.specs.Texts.{rows_to}
use Rattle.register_write.specs.Copied.{register_objection}
use Rattle.register_write.proofs.put_objections.Given as goal

abbrev pub invariant-loop-k : goal.invariant-loop-k
invariant-loop-k l = Put l.initial.room l.at (rows_to l.k (register_objection l.register)) l.end l.room
