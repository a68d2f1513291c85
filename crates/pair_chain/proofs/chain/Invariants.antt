-- `chain` links each entry to the one before it that names the same place. The invariant: those passed are linked.
use Rattle.std.proofs.Common.{length, get_or}
use Rattle.pair_chain.specs.Linked.{Linked}
use Rattle.pair_chain.proofs.chain.Given as goal

abbrev pub invariant-loop-e : goal.invariant-loop-e
invariant-loop-e l = Linked l.places (length l.head) l.e (λ x. get_or l.head x 0) (λ d. get_or l.next d 0)
