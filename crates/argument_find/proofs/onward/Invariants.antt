-- `onward` goes along the chain of x. The invariant: what it keeps is the earliest seen.
use lib.ListN.{length}
use Rattle.argument_find.proofs.Earliest.{Search}
use Rattle.argument_find.proofs.onward.Given as goal

abbrev pub invariant-loop-c : goal.invariant-loop-c
invariant-loop-c l =
    Search l.labelled.pairs.objectors.now l.labelled.pairs.targets.now l.labelled.labels.now l.labelled.lengths.now l.x l.label
    l.turns (length l.labelled.pairs.marks.now) l.earliest l.c

abbrev pub decreases-loop-c : goal.decreases-loop-c
decreases-loop-c l = l.c
