-- `count` counts the objections against each place. The invariant: those passed are counted.
use mathlib.Core.Path.{refl}
use Rattle.label_queue.proofs.QueueLinks.{counted_none, counted_more}
use Rattle.std.proofs.Common.{rules}
use Rattle.label_queue.proofs.count.Goals as goal

pub loop-target-init : goal.loop-target-init
loop-target-init c = counted_none _ _ _ c.requires.none_counted

pub loop-target-preserved : goal.loop-target-preserved
loop-target-preserved c = counted_more _ _ _ _ _ c.loop-target.invariant c.loop-target-test.true refl (search rules)
