-- `output`: what the library promises of a listing, put as it is printed.
use Rattle.std.proofs.Common.{arith}
use Rattle.program_list.proofs.ListPrinted.{prints}
use Rattle.program_list.proofs.output.Goals as goal

pub returns : goal.returns
returns c = prints _ _ (omega arith) _ _ _ _ c.text_listing-answer.ensures c.put_answer.ensures
