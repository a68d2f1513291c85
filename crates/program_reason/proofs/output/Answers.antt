-- `output`: what the library promises of the reason of the number asked for, put as it is printed.
use Rattle.std.proofs.Common.{arith}
use Rattle.program_reason.proofs.ReasonPrinted.{prints}
use Rattle.program_reason.proofs.output.Goals as goal

pub returns : goal.returns
returns c =
    prints _ _ _ (omega arith) _ c.number_of-number.ensures _ _ _ _ c.text_reason-answer.ensures c.put_answer.ensures
