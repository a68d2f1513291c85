-- `run` takes the places of the queue in turn. The invariant: the queue is in order; at its end nothing is left to label.
use Rattle.label_queue.proofs.Runs.{finish}
use Rattle.label_queue.proofs.WorkRooms.{same_on}
use Rattle.label_solve.proofs.Agreement.{labelled}
use Rattle.label_solve.proofs.run.Goals as goal
use Rattle.label_solve.proofs.run.Goals.{then-work-y-eq1, else-work-y-eq1}

pub loop-h-preserved : goal.loop-h-preserved
loop-h-preserved c =
    elim c.if-work-y-eq1.branch [
      | then-work-y-eq1 w ↦
          rw (w.left-is, w.work-is, w.t-is)
          (w.fell_targets-t.ensures.queued, same_on c.loop-h.invariant.1 w.fell_targets-t.ensures.same)
      | else-work-y-eq1 w ↦
          rw (w.left-is, w.work-is, w.t-is)
          (w.stand_targets-t.ensures.queued, same_on c.loop-h.invariant.1 w.stand_targets-t.ensures.same)
    ]

pub returns-clause-labelled : goal.returns-clause-labelled
returns-clause-labelled c = labelled _ _ _ _ _ c.args.pairs.now.handed c.loop-h.invariant.0.queue_at.run.sound
    (finish _ _ _ c.args.pairs.now.handed _ _ _ _ _ _ c.loop-h.invariant.0.queue_at c.loop-h-test.false)
