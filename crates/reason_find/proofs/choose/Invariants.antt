-- `choose` asks of each objection whether it is in the reason. The invariant: those passed have their ticks, the others none.
use Rattle.reason_find.proofs.TickSteps.{Choosing}
use Rattle.reason_find.proofs.choose.Given as goal

abbrev pub invariant-loop-k : goal.invariant-loop-k
invariant-loop-k l = Choosing l.labelled.pairs.marks.now l.labelled.pairs.objectors.now l.labelled.pairs.targets.now l.asked
    l.inside l.k
