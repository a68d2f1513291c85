-- The rooms that a working is lent come back through all its steps.
use mathlib.Core.Path.{◌∙◌}
use Rattle.label_queue.specs.WorkAt.{SameRooms}
use Rattle.label_queue.specs.declared.Work.{Work}

-- what a step leaves the same is the same as it was at first
pub same_on : {lent back after : Work} → SameRooms lent back → SameRooms back after → SameRooms lent after
same_on s t = record {
  labels = t.labels ∙ s.labels;
  lengths = t.lengths ∙ s.lengths;
  queue = t.queue ∙ s.queue;
  labels_long = t.labels_long ∙ s.labels_long;
  lengths_long = t.lengths_long ∙ s.lengths_long;
  queue_long = t.queue_long ∙ s.queue_long;
}
