-- `any_line` asks for a good line, and else for the next byte 10.
use Rattle.std.proofs.lemmas.List.{take_rest}
use Rattle.mend_text.proofs.LineAt.{spoiled_line}
use Rattle.mend_text.proofs.any_line.Goals as goal

pub returns-in-Some-line_end : goal.returns-in-Some-line_end
returns-in-Some-line_end c = spoiled_line c.args.text.now c.args.at c.in-Some-line_end.end c.in_default.ensures
    (rw (take_rest c.args.text.now c.args.at) at c.in-Some-line_end.ensures)
