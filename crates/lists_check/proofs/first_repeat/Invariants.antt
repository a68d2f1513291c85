-- `first_repeat` looks for each pair among those passed. The invariant: none of them is a repeat, and the rooms of our own hold
-- them.
use Prim.Native.Nat.{ℕ, ◌<◌}
use lib.ListN.{length}
use Rattle.pair_words.specs.Words.{objectors_in, targets_in}
use Rattle.pair_repeat.specs.Entered.{Entered}
use Rattle.pair_repeat.proofs.Unpacked.{Copied}
use Rattle.lists.specs.Refuses.{Repeat}
use Rattle.lists_check.proofs.first_repeat.Given as goal

abbrev pub invariant-loop-k : goal.invariant-loop-k
invariant-loop-k l = record {
  chained : Entered (length l.pairs.marks.now) l.k l.copies l.links;
  objectors_held : Copied (objectors_in l.copies) l.pairs.objectors.now l.k;
  targets_held : Copied (targets_in l.copies) l.pairs.targets.now l.k;
  no_repeat : (j : ℕ) → j < l.k → ¬ Repeat l.pairs.objectors.now l.pairs.targets.now j;
}
