-- `in_reason` goes by the target's tick, and then by `belongs`.
use Rattle.reason_find.proofs.TickSteps.{apart, within}
use Rattle.reason_find.proofs.in_reason.Goals as goal

pub returns-then-room-x-ne0 : goal.returns-then-room-x-ne0
returns-then-room-x-ne0 c =
    λ a r. within _ _ _ c.args.labelled.now.pairs.handed.order _ c.requires.1 a _ r c.if-room-x-ne0.true _ c.belongs.ensures

pub returns-else-room-x-ne0 : goal.returns-else-room-x-ne0
returns-else-room-x-ne0 c =
    λ a r. let z = c.if-room-x-ne0.false in
    rw z (apart _ _ _ c.args.labelled.now.pairs.handed.order _ c.requires.1 a _ r z)
