-- `fields_at` goes from tab to tab. The invariant: what is passed are fields, which the rooms hold.
use mathlib.Core.Path.{sym, ◌∙◌}
use native.Mathlib.Omega.{arith}
use Rattle.catalogue_read.proofs.CardText.{start, turn, no_number, no_end}
use Rattle.catalogue_read.proofs.fields_at.Goals as goal

pub loop-end-init : goal.loop-end-init
loop-end-init c = start _ _ _ _ _ _ (omega arith)

pub returns-in_err-number : goal.returns-in_err-number
returns-in_err-number c = rw c.from_residual.ensures (no_number _ _ _ _ _ _ _ _ _ _ c.loop-end.invariant
    (sym c.byte_at.ensures ∙ c.loop-end-test.true) (rw c.in_err-number.was at c.number_at.ensures))

pub loop-end-preserved : goal.loop-end-preserved
loop-end-preserved c =
    let again = turn c.args.text.now c.args.at c.args.n c.args.m c.args.objectors.now c.args.targets.now c.loop-end.objectors
    c.loop-end.targets c.loop-end.end c.loop-end.count c.loop-end.invariant _ _ (sym c.byte_at.ensures ∙ c.loop-end-test.true)
    (rw c.in_ok-number.was at c.number_at.ensures) in
    rw (c.put.ensures, c.put-in-loop-end.ensures) again

pub returns-then-byte_at-ne10 : goal.returns-then-byte_at-ne10
returns-then-byte_at-ne10 c = no_end _ _ _ _ _ _ _ _ _ _ c.loop-end.invariant
    (λ e. c.loop-end-test.false (c.byte_at.ensures ∙ e)) (λ e. c.if-byte_at-ne10.true (c.byte_at-2.ensures ∙ e))
