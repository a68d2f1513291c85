-- `repeat_line` goes over the objectors. The invariant: none passed is named twice on a line, and `last` has the last lines.
use Rattle.catalogue_read.proofs.Passes.{Naming}
use Rattle.catalogue_read.proofs.repeat_line.Given as goal

abbrev pub invariant-loop-k : goal.invariant-loop-k
invariant-loop-k l = Naming l.objectors l.targets l.last l.k
