-- `statement_at` tests the fields one by one; whatever fails a test is no statement.
use mathlib.Core.Path.{◌∙◌}
use Rattle.register_line.proofs.Fields.{statement_untabbed, statement_unended, statement_unmarked}
use Rattle.register_line.proofs.statement_at.Goals as goal

pub returns-then-byte_at-ne9 : goal.returns-then-byte_at-ne9
returns-then-byte_at-ne9 c = statement_untabbed c.args.s.now _ _ _ (rw c.in_ok-number.was at c.number_at.ensures)
    (λ e. c.if-byte_at-ne9.true (c.byte_at.ensures ∙ e))

pub returns-then-byte_at-ne10 : goal.returns-then-byte_at-ne10
returns-then-byte_at-ne10 c = statement_unended c.args.s.now _ _ _ (rw c.in_ok-number.was at c.number_at.ensures)
    (λ e. c.if-byte_at-ne10.true (c.byte_at-2.ensures ∙ e))

pub returns-in_err-mark : goal.returns-in_err-mark
returns-in_err-mark c = rw c.from_residual-in_err-mark.ensures
    (statement_unmarked c.args.s.now _ _ _ (rw c.in_ok-number.was at c.number_at.ensures)
    (λ m e. (rw c.in_err-mark.was at c.mark_of.ensures) m (c.byte_at-3.ensures ∙ e)))
