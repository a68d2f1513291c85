-- `turn` puts each place where it belongs. The invariant: those passed stand there.
use Rattle.catalogue_write.proofs.Turning.{TurnedTo}
use Rattle.catalogue_write.proofs.turn.Given as goal

abbrev pub invariant-loop-e : goal.invariant-loop-e
invariant-loop-e l = TurnedTo l.places l.e l.turned
