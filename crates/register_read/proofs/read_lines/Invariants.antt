-- `read_lines`: the invariant is that the lines passed are a register in order, which the rooms hold, and that its numbers
-- are indexed.
use mathlib.Core.Path.{◌≡◌}
use Prim.Native.Nat.{◌-◌, ◌<◌}
use lib.ListN.{length}
use Rattle.register_index.specs.IndexAt.{IsIndexed, SameParts}
use Rattle.pair_words.specs.Words.{objectors_in, targets_in}
use Rattle.pair_repeat.specs.Entered.{Entered}
use Rattle.register_read.proofs.Reader.{Inv}
use Rattle.register_read.proofs.read_lines.Given as goal

abbrev pub invariant-loop-at : goal.invariant-loop-at
invariant-loop-at l =
    Inv l.text l.at l.index.n l.m l.index.numbers.now l.marks (objectors_in l.objectors) (targets_in l.objectors)
    × SameParts l.initial.index l.index × (length l.marks ≡ length l.initial.marks)
    × (length l.objectors ≡ length l.initial.objectors) × (length l.targets ≡ length l.initial.targets)
    × IsIndexed l.index × (0 < l.m → Entered l.index.n l.m l.objectors l.targets)

abbrev pub decreases-loop-at : goal.decreases-loop-at
decreases-loop-at l = length l.text - l.at
