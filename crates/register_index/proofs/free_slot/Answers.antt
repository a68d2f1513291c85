-- `free_slot` goes down by the digits of the number. The invariant: they lead to the node reached.
use native.Mathlib.Omega.{arith}
use Rattle.register_index.proofs.Index.{link_later, link_low, walk_begins, walk_more}
use Rattle.register_index.proofs.free_slot.Goals as goal

pub loop-next-init : goal.loop-next-init
loop-next-init c = walk_begins _ _ _ _ c.below-next.ensures

pub loop-next-smaller : goal.loop-next-smaller
loop-next-smaller c = omega (
  arith,
  link_later _ _ _ c.requires _ _ _ c.loop-next.invariant.1 c.loop-next-test.true,
  link_low _ _ _ c.requires _ _ _ c.loop-next.invariant.1,
)

pub loop-next-preserved : goal.loop-next-preserved
loop-next-preserved c = walk_more _ _ _ c.requires _ _ _ _ _ c.loop-next.invariant c.loop-next-test.true
    c.below-next-in-loop-next.ensures
