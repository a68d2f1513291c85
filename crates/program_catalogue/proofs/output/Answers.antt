-- `output`: what the library promises of a catalogue, put as it is printed.
use Rattle.std.proofs.Common.{arith}
use Rattle.program_catalogue.proofs.CataloguePrinted.{prints}
use Rattle.program_catalogue.proofs.output.Goals as goal

pub returns : goal.returns
returns c = prints _ _ (omega arith) _ _ _ _ c.text_catalogue-answer.ensures c.put_answer.ensures
