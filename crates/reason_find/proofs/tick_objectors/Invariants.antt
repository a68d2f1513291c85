-- `tick_objectors` goes along the chain of x. The invariant: the objections that were seen are followed, and nothing else has a
-- tick.
use lib.ListN.{length}
use Rattle.reason_find.proofs.TickSteps.{Following}
use Rattle.reason_find.proofs.tick_objectors.Given as goal

abbrev pub invariant-loop-c : goal.invariant-loop-c
invariant-loop-c l =
    Following l.labelled.pairs.marks.now l.labelled.pairs.objectors.now l.labelled.pairs.targets.now (length l.initial.room) l.x
    l.tail l.initial.room l.initial.queue l.end l.room l.queue l.c

abbrev pub decreases-loop-c : goal.decreases-loop-c
decreases-loop-c l = l.c
