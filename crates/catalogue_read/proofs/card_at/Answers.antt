-- `card_at` reads what stands before the objectors, then their fields.
use Rattle.catalogue_read.proofs.CardText.{no_fields, whole_card}
use Rattle.catalogue_read.proofs.card_at.Goals as goal

pub returns-in_err-count : goal.returns-in_err-count
returns-in_err-count c = rw c.from_residual-in_err-count.ensures (no_fields c.args.text.now c.args.at _ _
    (rw c.in_ok-statement.was at c.head_at.ensures) (rw c.in_err-count.was at c.fields_at.ensures))

pub returns : goal.returns
returns c = whole_card c.args.text.now c.args.at _ _ (rw c.in_ok-statement.was at c.head_at.ensures) c.args.n c.args.m _ _
    c.args.objectors.now c.args.targets.now _ _ (rw c.in_ok-count.was at c.fields_at.ensures)
