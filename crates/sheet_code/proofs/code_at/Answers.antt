-- `code_at`: the mask leaves what the remainder by 4 does.
use Rattle.sheet_code.proofs.CodeSet.{code_read}
use Rattle.sheet_code.proofs.code_at.Goals as goal

pub returns : goal.returns
returns c = code_read _ _
