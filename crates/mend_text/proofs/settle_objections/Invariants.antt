-- `settle_objections`: the invariant says what is settled of the lines passed, for the lines that the text has, and that the
-- objections kept are chained.
use mathlib.Core.List.{List}
use Prim.Native.Nat.{◌-◌}
use lib.ListN.{length}
use Rattle.pair_words.specs.Words.{objectors_in, targets_in}
use Rattle.pair_repeat.specs.Entered.{Entered}
use Rattle.mend.specs.TextLines.{TextLine}
use Rattle.mend_text.proofs.Loops.{Objecting}
use Rattle.mend_text.proofs.settle_objections.Given as goal

abbrev pub invariant-loop-at : goal.invariant-loop-at
invariant-loop-at l = record {
  settled : (ls : List TextLine)
      × Objecting l.text ls l.at l.index.n l.m l.k l.index.numbers.now l.marks (objectors_in l.objectors)
      (targets_in l.objectors) l.fates;
  entered : Entered l.index.n l.m l.objectors l.targets;
}

abbrev pub decreases-loop-at : goal.decreases-loop-at
decreases-loop-at l = length l.text - l.at
