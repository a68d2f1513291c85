-- `argument_room`: no number has more than 9 bytes.
use Rattle.std.proofs.Common.{arith}
use Rattle.register.proofs.Number.{number_short}
use Rattle.program_reason.proofs.argument_room.Goals as goal

pub returns : goal.returns
returns c number h = omega (arith, number_short number h)
