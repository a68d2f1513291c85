-- `stand_targets` goes along the chain of a falling place. The invariant: what is looked at is the link reached.
use mathlib.Core.Path.{refl, sym, ◌∙◌}
use native.Mathlib.Omega.{arith}
use Prim.Native.Nat.{◌-◌}
use lib.ListN.{get_or}
use lib.Seq.{get_or-set_same}
use Rattle.std.proofs.Common.{rules}
use Rattle.label_queue.proofs.Runs.{enter, moved, left_some, lift_skip, lift_set, queue_room}
use Rattle.label_queue.proofs.WorkRooms.{same_on}
use Rattle.label_step.proofs.stand_targets.Goals as goal
use Rattle.label_step.proofs.stand_targets.Goals.{then-left-x-ne0-via-then-left-x-ne0}
use Rattle.label_step.proofs.stand_targets.Goals.{then-left-x-ne0-via-else-left-x-ne0+then-pairs-x-ne0}
use Rattle.label_step.proofs.stand_targets.Goals.{then-left-x-ne0-via-else-left-x-ne0+else-pairs-x-ne0+then-work-x-ne0}

pub loop-c-init : goal.loop-c-init
loop-c-init c =
    let entered = enter _ _ _ c.args.pairs.now.handed _ _ _ _ _ _ _ _ _ _ _ _ _ _ c.requires.chains
    c.requires.queued.0.queue_at.run c.requires.queued.1 c.requires.queued.2 c.from-y.ensures c.from-c.ensures in
    record {
      rooms = c.requires.queued.0.rooms;
      spaces = c.requires.queued.0.spaces;
      same = search rules;
      run = entered.0;
      link = entered.1;
    }

pub overflow_sub-left : goal.overflow_sub-left
overflow_sub-left c = left_some c.args.pairs.now.handed c.requires.chains c.loop-c.invariant.run c.loop-c.invariant.link
    c.loop-c-test.true refl

pub loop-c-preserved-then-left-x-ne0 : goal.loop-c-preserved-then-left-x-ne0
loop-c-preserved-then-left-x-ne0 c =
    let gone = moved (sym c.from-c-in-loop-c.ensures) (lift_skip c.args.pairs.now.handed c.requires.chains
    c.loop-c.invariant.run c.loop-c.invariant.link c.loop-c-test.true refl _ (omega (
      arith,
      left_some c.args.pairs.now.handed c.requires.chains c.loop-c.invariant.run c.loop-c.invariant.link
          c.loop-c-test.true refl,
    )) refl (search rules) (λ m n0 l. elim c.then-left-x-ne0.branch [
      | then-left-x-ne0-via-then-left-x-ne0 w ↦ w.if-left-x-ne0.true (get_or-set_same c.loop-c.left
          (get_or c.args.pairs.now.targets.now (c.loop-c.c - 1) 0) _ 0 (search rules) ∙ n0)
      | then-left-x-ne0-via-else-left-x-ne0+then-pairs-x-ne0 w ↦ w.if-pairs-x-ne0.true m
      | then-left-x-ne0-via-else-left-x-ne0+else-pairs-x-ne0+then-work-x-ne0 w ↦ w.if-work-x-ne0.true l
    ])) in
    record {
      rooms = c.loop-c.invariant.rooms;
      spaces = record { left_room = search rules; queue_room = search rules };
      same = c.loop-c.invariant.same;
      run = gone.0;
      link = gone.1;
    }

pub bounds-work-t : goal.bounds-work-t
bounds-work-t c = queue_room c.args.pairs.now.handed c.requires.chains c.loop-c.invariant.run c.loop-c.invariant.link
    c.loop-c-test.true refl (search rules) (search rules) c.if-work-x-ne0.false

pub loop-c-preserved : goal.loop-c-preserved
loop-c-preserved c =
    let gone = moved (sym c.from-c-in-loop-c.ensures) (lift_set c.args.pairs.now.handed c.requires.chains
    c.loop-c.invariant.run c.loop-c.invariant.link c.loop-c-test.true refl _ (omega (
      arith,
      left_some c.args.pairs.now.handed c.requires.chains c.loop-c.invariant.run c.loop-c.invariant.link
          c.loop-c-test.true refl,
    )) refl (search rules) (search rules) (search rules) (queue_room c.args.pairs.now.handed c.requires.chains
    c.loop-c.invariant.run c.loop-c.invariant.link c.loop-c-test.true refl (search rules) (search rules)
    c.if-work-x-ne0.false) (sym (get_or-set_same c.loop-c.left
    (get_or c.args.pairs.now.targets.now (c.loop-c.c - 1) 0) _ 0 (search rules)) ∙ c.if-left-x-ne0.false)
    c.if-pairs-x-ne0.false c.if-work-x-ne0.false) in
    record {
      rooms = record { labels_room = search rules; lengths_room = search rules };
      spaces = record { left_room = search rules; queue_room = search rules };
      same = same_on c.loop-c.invariant.same (search rules);
      run = gone.0;
      link = gone.1;
    }
