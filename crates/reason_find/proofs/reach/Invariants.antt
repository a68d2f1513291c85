-- `reach` goes along its own queue. The invariant: what has a tick is reached, and what comes before `at` is followed.
use mathlib.Core.Path.{◌≡◌}
use Prim.Native.Nat.{◌-◌}
use lib.ListN.{length}
use Rattle.reason_find.proofs.TickSteps.{Spreading}
use Rattle.reason_find.proofs.reach.Given as goal

abbrev pub invariant-loop-at : goal.invariant-loop-at
invariant-loop-at l =
    Spreading l.labelled.pairs.marks.now l.labelled.pairs.objectors.now l.labelled.pairs.targets.now 1024 l.asked l.tail l.room
    l.queue l.at × (length l.queue ≡ 1024)

abbrev pub decreases-loop-at : goal.decreases-loop-at
decreases-loop-at l = 1024 - l.at
