-- `start` queues what is read and has no objector. The invariant: the places passed are settled.
use mathlib.Core.Path.{◌≡◌}
use Prim.Native.Nat.{ℕ, ◌<◌, ◌≤◌}
use lib.ListN.{length, get_or}
use Rattle.label_queue.specs.LabelState.{Rooms}
use Rattle.label_queue.specs.Queue.{Run, Spaces}
use Rattle.label_queue.specs.WorkAt.{SameRooms}
use Rattle.label_queue.proofs.start.Given as goal

abbrev pub invariant-loop-x : goal.invariant-loop-x
invariant-loop-x l = record {
  rooms : Rooms l.pairs.marks.now l.work.labels.now l.work.lengths.now;
  spaces : Spaces l.pairs.marks.now l.left l.work.queue.now;
  same : SameRooms l.initial.work l.work;
  run : Run l.pairs.marks.now l.pairs.objectors.now l.pairs.targets.now l.x 0 l.t 0 0 0 l.work.labels.now l.work.lengths.now
      l.left l.work.queue.now;
  no_label : (x : ℕ) → l.x ≤ x → x < length l.pairs.marks.now → get_or l.work.labels.now x 0 ≡ 0;
}
