-- `unpack` parts each word. The invariant: so it is of the words passed, and the others are as they were.
use mathlib.Core.Path.{◌≡◌}
use Prim.Native.Nat.{ℕ, ◌≤◌}
use lib.ListN.{get_or}
use Rattle.pair_words.specs.Words.{objectors_in, targets_in}
use Rattle.pair_repeat.proofs.Unpacked.{Copied}
use Rattle.pair_repeat.proofs.unpack.Given as goal

abbrev pub invariant-loop-e : goal.invariant-loop-e
invariant-loop-e l = record {
  objectors : Copied l.pairs (objectors_in l.initial.pairs) l.e;
  targets : Copied l.links (targets_in l.initial.pairs) l.e;
  others : (i : ℕ) → l.e ≤ i → get_or l.pairs i 0 ≡ get_or l.initial.pairs i 0;
}
