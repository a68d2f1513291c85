-- `tally`: the invariant is that the statements passed are counted.
use mathlib.Core.Path.{◌≡◌}
use lib.ListN.{length}
use Rattle.sheet_code.specs.SheetParts.{Tallied}
use Rattle.sheet_code.proofs.tally.Given as goal

abbrev pub invariant-loop-x : goal.invariant-loop-x
invariant-loop-x l = record { four : length l.counts ≡ 4; tallied : Tallied l.sheet l.x l.counts }
