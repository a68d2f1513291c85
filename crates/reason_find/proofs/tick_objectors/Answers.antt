-- `tick_objectors` goes along the chain of x. The invariant: the objections that were seen are followed, and nothing else has a
-- tick.
use Rattle.reason_find.proofs.Ticks.{grown_in_room}
use Rattle.reason_find.proofs.TickSteps.{follow_comes, follow_ends}
use Rattle.reason_find.proofs.tick_objectors.Goals as goal

pub loop-c-preserved-then-belongs : goal.loop-c-preserved-then-belongs
loop-c-preserved-then-belongs c = follow_comes _ _ _ _ _ c.requires.chains _ _ _ _ _ _ _ _ _ c.loop-c.invariant
    c.loop-c-test.true _ c.from-c-in-loop-c.ensures _ _ _
    (rw c.if-belongs.true at c.belongs.ensures)
    (grown_in_room _ _ _ _ _ _ _ _ c.loop-c.invariant.grown.queued.same c.tick_statement-end.ensures.0)
    c.tick_statement-end.ensures.1

pub returns-clause-ticked : goal.returns-clause-ticked
returns-clause-ticked c = follow_ends _ _ _ _ _ c.requires.chains _ _ _ _ _
    c.args.labelled.now.pairs.handed.order.paired _ _ _ _ c.loop-c.invariant
    c.loop-c-test.false
