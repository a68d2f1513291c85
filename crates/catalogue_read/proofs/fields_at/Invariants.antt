-- `fields_at` goes from tab to tab. The invariant: what is passed are fields, which the rooms hold.
use Prim.Native.Nat.{◌-◌}
use lib.ListN.{length}
use Rattle.catalogue_read.proofs.CardText.{Inv}
use Rattle.catalogue_read.proofs.fields_at.Given as goal

abbrev pub invariant-loop-end : goal.invariant-loop-end
invariant-loop-end l = Inv l.text l.at l.n l.m l.initial.objectors l.initial.targets l.objectors l.targets l.end l.count

abbrev pub decreases-loop-end : goal.decreases-loop-end
decreases-loop-end l = length l.text - l.end
