-- `settle_statements`: the invariant says what is settled of the lines passed, and which lines are left.
use mathlib.Core.List.{List}
use Prim.Native.Nat.{◌-◌}
use lib.ListN.{length}
use Rattle.register_index.specs.IndexAt.{SameParts}
use Rattle.mend.specs.TextLines.{TextLine}
use Rattle.mend_text.proofs.Loops.{Stating}
use Rattle.mend_text.proofs.settle_statements.Given as goal

abbrev pub invariant-loop-at : goal.invariant-loop-at
invariant-loop-at l = record {
  settled : (ls : List TextLine)
      × Stating l.text ls l.at l.index.n l.k l.late l.index.numbers.now l.marks l.index.links.now l.fates;
  same : SameParts l.initial.index l.index;
}

abbrev pub decreases-loop-at : goal.decreases-loop-at
decreases-loop-at l = length l.text - l.at
