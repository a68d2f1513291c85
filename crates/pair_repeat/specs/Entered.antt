-- Objections in two linked rooms, none of them twice, and two walks side by side along their chains. For the code that looks for
-- repeats, not for callers of the product.
use Rattle.std.specs.Prelude.{List, ◌≡◌, ℕ, ◌≤◌, ◌<◌, length, get_or}
use Rattle.pair_chain.specs.Linked.{Walk, Linked}
use Rattle.pair_words.specs.Words.{objectors_in, begin_by, link_by, targets_in, begin_against, link_against}
use Rattle.lists.specs.Refuses.{Same}

-- m objections among n statements, chained by objector and by target
pub record Entered (n m : ℕ) (pairs links : List ℕ) : Type 0 where
  pub few : n ≤ 1024
  pub pairs_room : 4096 ≤ length pairs
  pub links_room : 3072 ≤ length links
  pub by : Linked (objectors_in pairs) n m (begin_by links) (link_by links)
  pub against : Linked (targets_in pairs) n m (begin_against links) (link_against pairs)
  pub once : (i e : ℕ) → i < e → e < m
      → Same (objectors_in pairs) (targets_in pairs) (get_or (objectors_in pairs) e 0) (get_or (targets_in pairs) e 0) i → ⊥

-- the two walks: neither the objections by y that were passed, nor those against x, are the objection of y against x
abbrev pub BothSearched : (objectors targets : List ℕ) → (m y x by against : ℕ) → Type 0
BothSearched objectors targets m y x by against =
    Walk objectors m y (λ e. ¬ (get_or targets e 0 ≡ x)) by × Walk targets m x (λ e. ¬ (get_or objectors e 0 ≡ y)) against
