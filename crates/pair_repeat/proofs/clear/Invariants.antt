-- `clear` puts where chains begin to none. The invariant: so it is of the statements passed.
use mathlib.Core.Path.{◌≡◌}
use Prim.Native.Nat.{ℕ, ◌<◌}
use Rattle.pair_words.specs.Words.{begin_against, begin_by}
use Rattle.pair_repeat.proofs.clear.Given as goal

abbrev pub invariant-loop-v : goal.invariant-loop-v
invariant-loop-v l = (u : ℕ) → u < l.v → (begin_against l.links u ≡ 0) × (begin_by l.links u ≡ 0)
