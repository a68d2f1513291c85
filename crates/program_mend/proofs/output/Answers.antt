-- `output`: what the library promises of mending, put as it is printed and reported.
use Rattle.std.proofs.Common.{arith}
use Rattle.program_mend.proofs.MendPrinted.{refused_put}
use Rattle.program_mend.proofs.output.Goals as goal

pub returns-in_default : goal.returns-in_default
returns-in_default c =
    refused_put _ _ _ _ (omega arith) (omega arith) _ _ c.in_default.ensures _ _ (rw c.in_default.is at c.put_answer.ensures)
