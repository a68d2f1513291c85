-- `head_at` tests the bytes one by one; whatever fails a test is no statement.
use mathlib.Core.Path.{◌∙◌}
use Rattle.catalogue_read.proofs.CardText.{head_unparted, head_unmarked}
use Rattle.catalogue_read.proofs.head_at.Goals as goal

pub returns-then-byte_at-ne9-2 : goal.returns-then-byte_at-ne9-2
returns-then-byte_at-ne9-2 c = head_unparted c.args.text.now c.args.at _ _ (rw c.in_ok-number.was at c.number_at.ensures)
    (λ e. c.if-byte_at-ne9-2.true (c.byte_at-3.ensures ∙ e))

pub returns-in_err-mark : goal.returns-in_err-mark
returns-in_err-mark c = rw c.from_residual-in_err-mark.ensures (head_unmarked c.args.text.now c.args.at _ _
    (rw c.in_ok-number.was at c.number_at.ensures)
    (λ m e. (rw c.in_err-mark.was at c.mark_of.ensures) m (c.byte_at-4.ensures ∙ e)))
