-- `fell_targets` goes along the chain of a standing place. The invariant: what is looked at is the link reached.
use mathlib.Core.Path.{refl, sym}
use Rattle.std.proofs.Common.{rules}
use Rattle.label_queue.proofs.Runs.{enter, moved, fell_skip, fell_set, queue_room}
use Rattle.label_queue.proofs.WorkRooms.{same_on}
use Rattle.label_step.proofs.fell_targets.Goals as goal

pub loop-c-init : goal.loop-c-init
loop-c-init c =
    let entered = enter _ _ _ c.args.pairs.now.handed _ _ _ _ _ _ _ _ _ _ _ _ _ _ c.requires.chains
    c.requires.queued.0.queue_at.run c.requires.queued.1 c.requires.queued.2 c.from-y.ensures c.from-c.ensures in
    record {
      rooms = c.requires.queued.0.rooms;
      spaces = c.requires.queued.0.spaces;
      same = search rules;
      run = entered.0;
      link = entered.1;
    }

pub loop-c-preserved-then-work-x-ne0 : goal.loop-c-preserved-then-work-x-ne0
loop-c-preserved-then-work-x-ne0 c =
    let gone = moved (sym c.from-c-in-loop-c.ensures) (fell_skip c.args.pairs.now.handed c.requires.chains
    c.loop-c.invariant.run c.loop-c.invariant.link c.loop-c-test.true refl refl c.if-work-x-ne0.true) in
    record {
      rooms = c.loop-c.invariant.rooms;
      spaces = c.loop-c.invariant.spaces;
      same = c.loop-c.invariant.same;
      run = gone.0;
      link = gone.1;
    }

pub bounds-work-t : goal.bounds-work-t
bounds-work-t c = queue_room c.args.pairs.now.handed c.requires.chains c.loop-c.invariant.run c.loop-c.invariant.link
    c.loop-c-test.true refl (search rules) (search rules) c.if-work-x-ne0.false

pub loop-c-preserved : goal.loop-c-preserved
loop-c-preserved c =
    let gone = moved (sym c.from-c-in-loop-c.ensures) (fell_set c.args.pairs.now.handed c.requires.chains
    c.loop-c.invariant.run c.loop-c.invariant.link c.loop-c-test.true refl refl (search rules) (search rules)
    (queue_room c.args.pairs.now.handed c.requires.chains c.loop-c.invariant.run c.loop-c.invariant.link
    c.loop-c-test.true refl (search rules) (search rules) c.if-work-x-ne0.false) c.if-work-x-ne0.false) in
    record {
      rooms = record { labels_room = search rules; lengths_room = search rules };
      spaces = record { left_room = search rules; queue_room = search rules };
      same = same_on c.loop-c.invariant.same (search rules);
      run = gone.0;
      link = gone.1;
    }
