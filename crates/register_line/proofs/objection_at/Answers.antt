-- `objection_at` tests the fields one by one; whatever fails a test is no objection.
use mathlib.Core.Path.{◌∙◌}
use Rattle.register_line.proofs.Fields.{objection_untabbed, objection_untargeted, objection_unended}
use Rattle.register_line.proofs.objection_at.Goals as goal

pub returns-then-byte_at-ne9 : goal.returns-then-byte_at-ne9
returns-then-byte_at-ne9 c = objection_untabbed c.args.s.now _ _ _ (rw c.in_ok-objector.was at c.number_at.ensures)
    (λ e. c.if-byte_at-ne9.true (c.byte_at.ensures ∙ e))

pub returns-in_err-target : goal.returns-in_err-target
returns-in_err-target c = rw c.from_residual-in_err-target.ensures
    (objection_untargeted c.args.s.now _ _ _ (rw c.in_ok-objector.was at c.number_at.ensures)
    (rw c.in_err-target.was at c.number_at-2.ensures))

pub returns-then-byte_at-ne10 : goal.returns-then-byte_at-ne10
returns-then-byte_at-ne10 c = objection_unended c.args.s.now _ _ _ (rw c.in_ok-objector.was at c.number_at.ensures) _ _
    (rw c.in_ok-target.was at c.number_at-2.ensures)
    (λ e. c.if-byte_at-ne10.true (c.byte_at-2.ensures ∙ e))
