-- `first_repeat` looks for each pair among those passed. The invariant: none of them is a repeat, and the rooms of our own hold
-- them.
use Prim.Native.Nat.{◌<◌}
use native.Mathlib.Omega.{arith}
use lib.ListN.{length}
use Rattle.game.proofs.Find.{further}
use Rattle.pair_words.specs.Words.{objectors_in, targets_in}
use Rattle.pair_words.proofs.Views.{objectors_length, targets_length}
use Rattle.pair_repeat.proofs.Unpacked.{copied_more}
use Rattle.lists_check.proofs.Copies.{no_repeat}
use Rattle.std.proofs.Common.{rules, refl}
use Rattle.lists_check.proofs.first_repeat.Goals as goal

pub loop-k-preserved : goal.loop-k-preserved
loop-k-preserved c =
    let held = c.loop-k.invariant in
    let room : c.loop-k.k < length c.loop-k.copies = omega (arith, c.args.pairs.now.handed.few_pairs, held.chained.pairs_room) in
    record {
      chained = c.enter.ensures.0;
      objectors_held =
          rw c.enter.ensures.1 (copied_more (objectors_in c.loop-k.copies) c.args.pairs.now.objectors.now c.loop-k.k _
          (omega (arith, room, objectors_length c.loop-k.copies)) held.objectors_held refl);
      targets_held =
          rw c.enter.ensures.2 (copied_more (targets_in c.loop-k.copies) c.args.pairs.now.targets.now c.loop-k.k _
          (omega (arith, room, targets_length c.loop-k.copies)) held.targets_held refl);
      no_repeat =
          further _ _ held.no_repeat (no_repeat c.args.pairs.now.objectors.now c.args.pairs.now.targets.now
          (objectors_in c.loop-k.copies) (targets_in c.loop-k.copies) c.loop-k.k held.objectors_held held.targets_held
          (search rules));
    }
