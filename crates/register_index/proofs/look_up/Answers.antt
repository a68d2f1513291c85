-- `look_up` goes down by the digits of the number. The invariant: if it is there, it is at the node reached or below it.
use native.Mathlib.Omega.{arith}
use Rattle.register_index.proofs.Index.{left_less, seek_begins, seek_more}
use Rattle.register_index.proofs.look_up.Goals as goal

pub loop-node-init : goal.loop-node-init
loop-node-init c = seek_begins _ _ _ c.requires _ _ c.below-node.ensures

pub loop-node-smaller : goal.loop-node-smaller
loop-node-smaller c = left_less _ _ _ c.requires _ _ _ c.loop-node.invariant.0 c.loop-node-test.true
    c.below-node-in-loop-node.ensures

pub loop-node-preserved : goal.loop-node-preserved
loop-node-preserved c = seek_more _ _ _ c.requires _ _ _ _ c.loop-node.invariant c.loop-node-test.true
    (λ e. omega (arith, c.if-numbers-node.false, e)) c.below-node-in-loop-node.ensures
