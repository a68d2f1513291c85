-- `tick_statement` leaves a statement that has its tick, and ticks and queues any other.
use Rattle.reason_find.proofs.Ticks.{queue_room, now_ticked, grown_one}
use Rattle.reason_find.proofs.tick_statement.Goals as goal

pub bounds-queue-tail : goal.bounds-queue-tail
bounds-queue-tail c = queue_room _ _ _ _ _ c.requires.0 c.requires.1 c.if-room-y-ne0.false

pub returns : goal.returns
returns c = (
  grown_one _ _ _ _ _ c.requires.0 c.requires.1 c.if-room-y-ne0.false,
  now_ticked _ _ _ _ _ c.requires.0 c.requires.1
      c.if-room-y-ne0.false,
)
