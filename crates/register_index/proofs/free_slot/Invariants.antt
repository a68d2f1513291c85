-- `free_slot` goes down by the digits of the number. The invariant: they lead to the node reached.
use Prim.Native.Nat.{◌-◌}
use Rattle.register_index.proofs.Index.{Walks}
use Rattle.register_index.proofs.free_slot.Given as goal

abbrev pub invariant-loop-next : goal.invariant-loop-next
invariant-loop-next l = Walks l.index.n l.index.links.now l.number l.rest l.node l.next

abbrev pub decreases-loop-next : goal.decreases-loop-next
decreases-loop-next l = l.index.n - l.node
