-- `start` queues what is read and has no objector. The invariant: the places passed are settled.
use mathlib.Core.Path.{◌≡◌, ◌∙◌}
use native.Mathlib.Omega.{arith}
use lib.ListN.{length, get_or}
use lib.Seq.{get_or-set_other}
use Rattle.label_queue.proofs.Runs.{run_blank, start_room, start_set, settle}
use Rattle.label_queue.proofs.WorkRooms.{same_on}
use Rattle.std.proofs.Common.{rules}
use Rattle.label_queue.proofs.start.Goals as goal
use Rattle.label_queue.proofs.start.Goals.{then-mark-eq0+then-left-x-eq0, else-mark-eq0}
use Rattle.label_queue.proofs.start.Goals.{else-mark-eq0-via-then-mark-eq0+else-left-x-eq0, else-mark-eq0-via-else-mark-eq0}

pub loop-x-init : goal.loop-x-init
loop-x-init c = record {
  rooms = c.requires.rooms;
  spaces = c.requires.spaces;
  same = search rules;
  run = run_blank _ _ _ c.args.pairs.now.handed _ _ _ _ c.requires.rooms.labels_room c.requires.blank c.requires.counted;
  no_label = λ x _ h. c.requires.blank.no_label x h;
}

pub bounds-work-t : goal.bounds-work-t
bounds-work-t c =
    start_room _ _ _ c.args.pairs.now.handed _ _ _ _ _ _ c.loop-x.invariant.run (search rules) (search rules)
    (c.loop-x.invariant.no_label c.loop-x.x (omega arith) c.loop-x-test.true)

pub loop-x-preserved : goal.loop-x-preserved
loop-x-preserved c =
    let z : get_or c.loop-x.work.labels.now c.loop-x.x 0 ≡ 0 = c.loop-x.invariant.no_label c.loop-x.x (omega arith)
    c.loop-x-test.true in
    elim c.if-mark-eq0.branch [
      | then-mark-eq0+then-left-x-eq0 w ↦
          rw (w.work-is, w.t-is) record {
            rooms = record { labels_room = search rules; lengths_room = search rules };
            spaces = record { left_room = search rules; queue_room = search rules };
            same = same_on c.loop-x.invariant.same (search rules);
            run = start_set _ _ _ c.args.pairs.now.handed _ _ _ _ _ _ c.loop-x.invariant.run c.loop-x-test.true (search rules)
                (search rules) (start_room _ _ _ c.args.pairs.now.handed _ _ _ _ _ _ c.loop-x.invariant.run (search rules)
                (search rules) z) w.if-mark-eq0.true w.if-left-x-eq0.true z;
            no_label = λ x h g. get_or-set_other c.loop-x.work.labels.now c.loop-x.x x 1 0 (λ (p : x ≡ c.loop-x.x). omega arith)
                ∙ c.loop-x.invariant.no_label x (omega arith) g;
          }
      | else-mark-eq0 w ↦
          rw (w.work-is, w.t-is) record {
            rooms = c.loop-x.invariant.rooms;
            spaces = c.loop-x.invariant.spaces;
            same = c.loop-x.invariant.same;
            run = settle _ _ _ c.args.pairs.now.handed _ _ _ _ _ _ c.loop-x.invariant.run (λ m l. elim w.else-mark-eq0.branch [
              | else-mark-eq0-via-then-mark-eq0+else-left-x-eq0 v ↦ absurd (v.if-left-x-eq0.false l)
              | else-mark-eq0-via-else-mark-eq0 v ↦ absurd (v.if-mark-eq0.false m)
            ]);
            no_label = λ x h g. c.loop-x.invariant.no_label x (omega arith) g;
          }
    ]

pub returns-clause-queued : goal.returns-clause-queued
returns-clause-queued c = let h : c.loop-x.x ≡ length c.args.pairs.now.marks.now = omega arith in
    record {
      rooms = c.loop-x.invariant.rooms;
      spaces = c.loop-x.invariant.spaces;
      queue_at = record { y = 0; k = 0; run = rw h at c.loop-x.invariant.run };
    }
