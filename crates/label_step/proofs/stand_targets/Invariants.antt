-- `stand_targets` goes along the chain of a falling place. The invariant: what is looked at is the link reached.
use Prim.Native.Nat.{◌+◌}
use lib.ListN.{length}
use Rattle.label_queue.specs.LabelState.{Rooms}
use Rattle.label_queue.specs.Queue.{Run, Spaces}
use Rattle.label_queue.specs.WorkAt.{SameRooms}
use Rattle.label_queue.proofs.Runs.{Link}
use Rattle.label_step.proofs.stand_targets.Given as goal

abbrev pub invariant-loop-c : goal.invariant-loop-c
invariant-loop-c l = record {
  rooms : Rooms l.pairs.marks.now l.work.labels.now l.work.lengths.now;
  spaces : Spaces l.pairs.marks.now l.left l.work.queue.now;
  same : SameRooms l.initial.work l.work;
  run : Run l.pairs.marks.now l.pairs.objectors.now l.pairs.targets.now (length l.pairs.marks.now) (l.h + 1) l.t l.y l.c l.k
      l.work.labels.now l.work.lengths.now l.left l.work.queue.now;
  link : Link l.pairs.marks.now l.pairs.objectors.now l.h l.t l.y 2 l.c l.k l.work.labels.now l.work.lengths.now
      l.work.queue.now;
}

abbrev pub decreases-loop-c : goal.decreases-loop-c
decreases-loop-c l = l.c
