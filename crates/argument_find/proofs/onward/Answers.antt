-- `onward` goes along the chain of x. The invariant: what it keeps is the earliest seen.
use native.Mathlib.Omega.{arith}
use Rattle.argument_find.proofs.Earliest.{search_passes, search_ends}
use Rattle.argument_find.proofs.onward.Goals as goal

pub loop-c-preserved : goal.loop-c-preserved
loop-c-preserved c =
    search_passes _ _ _ _ _ _ _ _ c.requires.chains.chained c.loop-c.invariant c.loop-c-test.true c.from-c-in-loop-c.ensures
    (λ a b. grind arith)

pub returns : goal.returns
returns c =
    let order = c.args.labelled.now.pairs.handed.order in (
      c.other-label.result,
      c.other-label.ensures,
      search_ends _ _ _ _ _ _ _ _ order.paired c.loop-c.invariant c.loop-c-test.false
          (λ z o. omega (arith, order.objector o.0.0 o.0.1, o.0.3))
          (c.requires.objector c.other-label.result c.other-label.ensures),
    )
