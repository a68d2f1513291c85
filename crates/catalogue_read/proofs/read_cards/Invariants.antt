-- `read_cards`: the invariant is that the lines passed are sound cards, which the rooms hold, and that their numbers are indexed.
use Prim.Native.Nat.{◌-◌}
use lib.ListN.{length}
use Rattle.register_index.specs.IndexAt.{IsIndexed, SameParts}
use Rattle.catalogue_read.proofs.Reader.{Inv}
use Rattle.catalogue_read.proofs.read_cards.Given as goal

abbrev pub invariant-loop-at : goal.invariant-loop-at
invariant-loop-at l = record {
  held : Inv l.text l.at l.index.n l.m l.index.numbers.now l.marks l.objectors l.targets;
  indexed : IsIndexed l.index;
  same : SameParts l.initial.index l.index;
}

abbrev pub decreases-loop-at : goal.decreases-loop-at
decreases-loop-at l = length l.text - l.at
