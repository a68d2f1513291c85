-- `bad_place` finds the first pair with a place outside. The invariant: none was passed.
use Prim.Native.Nat.{ℕ, ◌<◌}
use Rattle.lists.specs.Refuses.{BadPlace}
use Rattle.lists_check.proofs.bad_place.Given as goal

abbrev pub invariant-loop-k : goal.invariant-loop-k
invariant-loop-k l = (j : ℕ) → j < l.k → ¬ BadPlace l.marks l.objectors l.targets j
