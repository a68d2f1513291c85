-- `number_at` gives the code of the form that was found.
use Rattle.register_number.proofs.FormSteps.{code_none, code_found}
use Rattle.register_number.proofs.number_at.Goals as goal

pub returns-in_err-form : goal.returns-in_err-form
returns-in_err-form c = rw c.from_residual.ensures
    (code_none c.args.s.now c.args.at (rw c.in_err-form.was at c.form_at.ensures))

pub returns : goal.returns
returns c = rw c.code_of.ensures (code_found c.args.s.now c.args.at _ _
    (rw c.in_ok-form.was at c.form_at.ensures))
