-- `set_code`: what is stored in the byte is what the computed test of all bytes is about.
use Rattle.std.proofs.Common.{rules}
use Rattle.sheet_code.proofs.CodeSet.{code_set}
use Rattle.sheet_code.proofs.set_code.Goals as goal

pub returns : goal.returns
returns c = code_set c.args.sheet.now c.args.x c.args.code c.requires.0
    (search rules) c.requires.1
