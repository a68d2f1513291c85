-- What the labelling writes, said of the rooms that are lent as one value: for the workings, not for callers.
use Rattle.std.specs.Prelude.{◌≡◌, List, ℕ, length}
use Rattle.lists.specs.declared.in_order.Pairs.{Pairs}
use Rattle.label_queue.specs.LabelState.{Rooms}
use Rattle.label_queue.specs.Queue.{QueueAt, Spaces}
use Rattle.label_queue.specs.declared.Work.{Work}

-- between two places of the queue, in rooms that are long enough
pub record WorkAt (p : Pairs) (left : List ℕ) (h t : ℕ) (w : Work) : Type 0 where
  pub rooms : Rooms p.marks.now w.labels.now w.lengths.now
  pub spaces : Spaces p.marks.now left w.queue.now
  pub queue_at : QueueAt p.marks.now p.objectors.now p.targets.now h t w.labels.now w.lengths.now left w.queue.now

-- the rooms that come back are those that were lent, and as long
pub record SameRooms (lent back : Work) : Type 0 where
  pub labels : back.labels.ghost_name ≡ lent.labels.ghost_name
  pub lengths : back.lengths.ghost_name ≡ lent.lengths.ghost_name
  pub queue : back.queue.ghost_name ≡ lent.queue.ghost_name
  pub labels_long : length back.labels.now ≡ length lent.labels.now
  pub lengths_long : length back.lengths.now ≡ length lent.lengths.now
  pub queue_long : length back.queue.now ≡ length lent.queue.now
