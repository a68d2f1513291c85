-- `run` takes the places of the queue in turn. The invariant: the queue is in order; at its end nothing is left to label.
use Prim.Native.Nat.{◌-◌}
use lib.ListN.{length}
use Rattle.label_queue.specs.WorkAt.{WorkAt, SameRooms}
use Rattle.label_solve.proofs.run.Given as goal

abbrev pub invariant-loop-h : goal.invariant-loop-h
invariant-loop-h l = WorkAt l.pairs l.left l.h l.t l.work × SameRooms l.initial.work l.work

abbrev pub decreases-loop-h : goal.decreases-loop-h
decreases-loop-h l = length l.pairs.marks.now - l.h
