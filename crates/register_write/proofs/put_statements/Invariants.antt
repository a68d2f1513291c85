-- `put_statements` puts line after line. The invariant: the lines passed are in the room.
use Rattle.room_write.specs.Writing.{Put}
use Rattle.register.specs.Texts.{rows_to}
use Rattle.register_write.specs.Copied.{statement_text}
use Rattle.register_write.proofs.put_statements.Given as goal

abbrev pub invariant-loop-i : goal.invariant-loop-i
invariant-loop-i l =
    Put l.initial.room l.at (rows_to l.i (statement_text l.register.numbers.now l.register.pairs.marks.now)) l.end l.room
