-- `count` counts the objections against each place. The invariant: those passed are counted.
use Rattle.label_queue.specs.Queue.{Counted}
use Rattle.label_queue.proofs.count.Given as goal

abbrev pub invariant-loop-target : goal.invariant-loop-target
invariant-loop-target l = Counted l.pairs.marks.now l.pairs.targets.now l.target-index l.left
