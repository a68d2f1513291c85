-- `output`: what the library promises of the old form, put as it is printed.
use Rattle.std.proofs.Common.{arith}
use Rattle.program_uncatalogue.proofs.OldFormPrinted.{prints}
use Rattle.program_uncatalogue.proofs.output.Goals as goal

pub returns : goal.returns
returns c = prints _ _ (omega arith) _ _ _ _ c.catalogue_text-answer.ensures c.put_answer.ensures
