-- `number_text` puts the number at the start of the room, if it is one and there is room for it.
use native.Mathlib.Omega.{arith}
use Rattle.register.proofs.Number.{number_small}
use Rattle.call_number.proofs.WholeNumber.{too_short}
use Rattle.call_number.proofs.number_text.Goals as goal

pub returns-then-room-size : goal.returns-then-room-size
returns-then-room-size c = too_short c.args.number c.args.room.now (rw c.if-not-is_number.false at c.is_number.ensures)
    (omega (arith, c.if-room-size.true, c.number_size-size.ensures))

pub overflow_cast-result : goal.overflow_cast-result
overflow_cast-result c = omega (arith, c.number_size-size.ensures, number_small c.args.number)
