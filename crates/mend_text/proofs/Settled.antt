-- What the rooms of a settled text begin with: the lists of the mended register are in order, and there are few fates.
use mathlib.Core.List.{List}
use Prim.Native.Nat.{ℕ, ◌≤◌}
use native.Mathlib.Omega.{arith}
use lib.ListN.{length, take}
use Rattle.lists.specs.Handed.{Handed}
use Rattle.register_read.proofs.Lent.{register_handed}
use Rattle.mend.specs.Mended.{mended}
use Rattle.mend.proofs.TextLines.{few_lines}
use Rattle.mend_text.specs.Passes.{TextSettled}
use Rattle.mend_text.specs.declared.KeptCounts.{KeptCounts}

module _ (s : List ℕ) (short : length s ≤ 65535) (r : KeptCounts) (nums marks objectors targets fates-room : List ℕ)
    (q : TextSettled s r nums marks objectors targets fates-room) where
  pub few_fates : r.lines ≤ 65535
  few_fates = omega (arith, q.counted, few_lines s q.ls q.lines_of)

  pub settled_handed : Handed (take r.statements marks) (take r.objections objectors) (take r.objections targets)
  settled_handed =
      rw (q.settled.holds.marks_are, q.settled.holds.objectors_are, q.settled.holds.targets_are)
      (register_handed (mended q.ls) q.settled.valid)
