-- What two walks side by side have found: where one of them ends, no entry is the objection.
use mathlib.Core.List.{List}
use mathlib.Core.Path.{◌≡◌}
use Prim.Native.Nat.{ℕ}
use Rattle.std.specs.Prelude.{None}
use Rattle.game.specs.Questions.{FirstBelow}
use Rattle.pair_chain.proofs.ChainWalks.{walk_ends}
use Rattle.lists.specs.Refuses.{Same}
use Rattle.pair_repeat.specs.Entered.{BothSearched}

module _ {objectors targets : List ℕ} {m y x by against : ℕ} (walks : BothSearched objectors targets m y x by against) where
  pub by_over : by ≡ 0 → FirstBelow (Same objectors targets y x) m None
  by_over z e h p = walk_ends walks.0 z e h p.0 p.1

  pub against_over : against ≡ 0 → FirstBelow (Same objectors targets y x) m None
  against_over z e h p = walk_ends walks.1 z e h p.1 p.0
