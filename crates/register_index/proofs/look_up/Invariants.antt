-- `look_up` goes down by the digits of the number. The invariant: if it is there, it is at the node reached or below it.
use Rattle.register_index.proofs.Index.{left, Seeks}
use Rattle.register_index.proofs.look_up.Given as goal

abbrev pub invariant-loop-node : goal.invariant-loop-node
invariant-loop-node l = Seeks l.numbers l.n l.links l.number l.rest l.node

abbrev pub decreases-loop-node : goal.decreases-loop-node
decreases-loop-node l = left l.n l.node
