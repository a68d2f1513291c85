-- `pass_statement`: a line of each kind; only a statement is settled.
use native.Mathlib.Omega.{arith}
use Rattle.mend_text.proofs.Passing.{past_unended, past_spoiled, past_objection, past_statement}
use Rattle.mend_text.proofs.pass_statement.Goals as goal

pub returns-in-Unended-clause-passed : goal.returns-in-Unended-clause-passed
returns-in-Unended-clause-passed c = λ ls S lines stated. past_unended c.args.text.now c.args.at ls lines S
    c.args.index.now.n c.args.index.now.numbers.now c.args.marks.now c.args.index.now.links.now stated c.args.late
    c.requires.at_in_bounds.0 c.in-Unended.ensures

pub returns-in-Spoiled-clause-passed : goal.returns-in-Spoiled-clause-passed
returns-in-Spoiled-clause-passed c = λ ls S lines stated. past_spoiled c.args.text.now c.args.at ls lines S
    c.args.index.now.n c.args.index.now.numbers.now c.args.marks.now c.args.index.now.links.now stated c.args.late
    c.in-Spoiled.next c.in-Spoiled.ensures

pub returns-in-Good-Objection-default-clause-passed : goal.returns-in-Good-Objection-default-clause-passed
returns-in-Good-Objection-default-clause-passed c = λ ls S lines stated. past_objection c.args.text.now c.args.at ls lines S
    c.args.index.now.n c.args.index.now.numbers.now c.args.marks.now c.args.index.now.links.now stated c.args.late
    c.in-Good-Objection-default.field-0-0 c.in-Good-Objection-default.next
    (rw c.in-Good-Objection-default.field-0-is at c.in-Good-Objection-default.ensures)

pub returns-in-Good-Statement-default-clause-passed : goal.returns-in-Good-Statement-default-clause-passed
returns-in-Good-Statement-default-clause-passed c = λ ls S lines stated. past_statement c.args.text.now c.args.at ls lines S
    c.args.index.now.n c.args.index.now.numbers.now c.args.marks.now c.args.index.now.links.now stated c.args.late
    c.in-Good-Statement-default.statement c.in-Good-Statement-default.next
    (rw c.in-Good-Statement-default.field-0-is at c.in-Good-Statement-default.ensures)
    (omega (arith, c.requires.at_in_bounds.1)) (omega (arith, c.requires.at_in_bounds.2)) c.settle_statement-fate.result _ _ _
    c.settle_statement-fate.ensures.settled c.settle_statement-fate.new.index.n
    c.moved_if.result c.settle_statement-fate.ensures.count c.moved_if.ensures
