-- `place_objectors` goes over the objectors. The invariant: those passed are places, and the others still numbers.
use Rattle.catalogue_read.proofs.Passes.{Placing}
use Rattle.catalogue_read.proofs.place_objectors.Given as goal

abbrev pub invariant-loop-k : goal.invariant-loop-k
invariant-loop-k l = Placing l.index.numbers.now l.index.n l.initial.objectors l.objectors l.k
