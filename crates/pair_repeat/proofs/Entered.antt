-- At first no objection stands; and one more, that does not stand yet, is chained and stands once too.
use mathlib.Core.List.{List}
use mathlib.Core.Logic.{⊎_elim}
use mathlib.Core.Path.{sym, ap, ◌≡◌, ◌∙◌}
use Prim.Native.Nat.{ℕ, ◌+◌, ◌*◌, ◌≤◌, ◌<◌}
use native.Mathlib.Decide.{ℕ_discrete}
use native.Mathlib.Omega.{arith}
use lib.ListN.{length, replicate, length-replicate, set, get_or}
use lib.Seq.{get_or-set_other, get_or-set_same}
use Rattle.pair_chain.specs.Linked.{Linked}
use Rattle.pair_chain.proofs.ChainSteps.{Stored, all_zero, linked_none, linked_same, linked_more}
use Rattle.pair_words.specs.Words.{begin_against, begin_by, with_begins, objectors_in, link_by, targets_in, link_against, high}
use Rattle.pair_words.specs.Words.{with_pair, with_link_by}
use Rattle.pair_words.proofs.Views.{begins_against, begins_by, link_length, pair_objectors, pair_targets, objectors_length}
use Rattle.pair_words.proofs.Views.{link_by_lem, begins_link, link_link, targets_length, link_against_lem, pair_link, pair_length}
use Rattle.pair_words.proofs.Views.{begins_length}
use Rattle.lists.specs.Refuses.{Same}
use Rattle.pair_repeat.specs.Entered.{Entered}

-- one statement more whose chains have not begun
pub none_more : (links : List ℕ) (v : ℕ) → v < 1024 → 3072 ≤ length links
    → ((u : ℕ) → u < v → (begin_against links u ≡ 0) × (begin_by links u ≡ 0)) → (u : ℕ) → u < v + 1
    → (begin_against (with_begins links v v 0) u ≡ 0) × (begin_by (with_begins links v v 0) u ≡ 0)
none_more links v low words none u h = (
  ⊎_elim (λ w. w.1) (λ w. w.1 ∙ (none u (omega (arith, w.0))).0) (begins_against links v v 0 low low words u),
  ⊎_elim (λ w. w.1) (λ w. w.1 ∙ (none u (omega (arith, w.0))).1) (begins_by links v v 0 low low words u),
)

pub chains_none : (n : ℕ) (pairs links : List ℕ) → n ≤ 1024 → 4096 ≤ length pairs → 3072 ≤ length links
    → ((v : ℕ) → v < n → (begin_against links v ≡ 0) × (begin_by links v ≡ 0)) → Entered n 0 pairs links
chains_none n pairs links few a b none = record {
  few = few;
  pairs_room = a;
  links_room = b;
  by = linked_none (λ v h. (none v h).1);
  against = linked_none (λ v h. (none v h).0);
  once = λ i e h k. absurd (omega arith);
}

-- rooms of zeros
pub chains_zeros : (n : ℕ) → n ≤ 1024 → Entered n 0 (replicate {A = ℕ} 4096 0) (replicate {A = ℕ} 3072 0)
unfolding begin_against begin_by high
chains_zeros n few =
    chains_none n (replicate {A = ℕ} 4096 0) (replicate {A = ℕ} 3072 0) few (omega (arith, length-replicate {A = ℕ} 4096 0))
    (omega (arith, length-replicate {A = ℕ} 3072 0))
    (λ v h. (omega (arith, all_zero 3072 (1024 + 2 * v)), omega (arith, all_zero 3072 (1025 + 2 * v))))

module _ (n m : ℕ) (pairs links : List ℕ) (chains : Entered n m pairs links) (left : m < 4096) (y x : ℕ) (objector : y < n)
    (target : x < n)
    (new : (e : ℕ) → e < m → ¬ Same (objectors_in pairs) (targets_in pairs) y x e) where
  abbrev pairs' : List ℕ
  pairs' = with_pair pairs m y x (begin_against links x)

  abbrev linked : List ℕ
  linked = with_link_by links m (begin_by links y)

  abbrev links' : List ℕ
  links' = with_begins linked y x (m + 1)

  abbrev objectors : List ℕ
  objectors = set (objectors_in pairs) m y

  abbrev targets : List ℕ
  targets = set (targets_in pairs) m x

  low_y : y < 1024
  low_y = omega (arith, chains.few)

  low_x : x < 1024
  low_x = omega (arith, chains.few)

  pub earlier : (begin_against links x < 4096) × (begin_by links y < 4096)
  earlier = (omega (arith, (chains.against.begins x target).low), omega (arith, (chains.by.begins y objector).low))

  words : 3072 ≤ length linked
  words = omega (arith, chains.links_room, link_length links m (begin_by links y) left earlier.1 chains.links_room)

  pub objectors_more : objectors_in pairs' ≡ objectors
  objectors_more = pair_objectors pairs m y x (begin_against links x) low_y low_x

  pub targets_more : targets_in pairs' ≡ targets
  targets_more = pair_targets pairs m y x (begin_against links x) low_y low_x

  -- chained by objector, and by target
  chained_by : Linked objectors n (m + 1) (begin_by links') (link_by links')
  chained_by =
      linked_more (linked_same (λ i h. get_or-set_other (objectors_in pairs) m i y 0 (λ p. omega arith)) chains.by) objector
      (get_or-set_same (objectors_in pairs) m y 0 (omega (arith, objectors_length pairs, chains.pairs_room))) begun put
    where
      begun : (u : ℕ) → u < n → Stored u y (begin_by links' u) (begin_by links u) (m + 1)
      begun u h =
          rw (← (link_by_lem links m (begin_by links y) left earlier.1 chains.links_room u))
          (begins_by linked y x (m + 1) low_y low_x words u)

      put : (e : ℕ) → e < m + 1 → Stored e m (link_by links' e) (link_by links e) (begin_by links y)
      put e h =
          rw (begins_link linked y x (m + 1) low_y low_x words e (omega arith))
          (link_link links m (begin_by links y) left earlier.1 chains.links_room e (omega arith))

  chained_against : Linked targets n (m + 1) (begin_against links') (link_against pairs')
  chained_against =
      linked_more (linked_same (λ i h. get_or-set_other (targets_in pairs) m i x 0 (λ p. omega arith)) chains.against) target
      (get_or-set_same (targets_in pairs) m x 0 (omega (arith, targets_length pairs, chains.pairs_room))) begun put
    where
      begun : (u : ℕ) → u < n → Stored u x (begin_against links' u) (begin_against links u) (m + 1)
      begun u h =
          rw (← (link_against_lem links m (begin_by links y) left earlier.1 chains.links_room u))
          (begins_against linked y x (m + 1) low_y low_x words u)

      put : (e : ℕ) → e < m + 1 → Stored e m (link_against pairs' e) (link_against pairs e) (begin_against links x)
      put e h = pair_link pairs m y x (begin_against links x) low_y low_x (omega (arith, chains.pairs_room)) e

  once : (i e : ℕ) → i < e → e < m + 1 → Same objectors targets (get_or objectors e 0) (get_or targets e 0) i → ⊥
  once i e h k (p, q) = go (ℕ_discrete e m)
    where
      was_by : (j : ℕ) → (j ≡ m → ⊥) → get_or objectors j 0 ≡ get_or (objectors_in pairs) j 0
      was_by j = get_or-set_other (objectors_in pairs) m j y 0

      was_against : (j : ℕ) → (j ≡ m → ⊥) → get_or targets j 0 ≡ get_or (targets_in pairs) j 0
      was_against j = get_or-set_other (targets_in pairs) m j x 0

      before : i ≡ m → ⊥
      before z = omega arith

      go : Dec (e ≡ m) → ⊥
      go (yes z) =
          new i (omega arith) (
            sym (was_by i before) ∙ p ∙ ap (λ j. get_or objectors j 0) z
                ∙ get_or-set_same (objectors_in pairs) m y 0 (omega (arith, objectors_length pairs, chains.pairs_room)),
            sym (was_against i before) ∙ q ∙ ap (λ j. get_or targets j 0) z
                ∙ get_or-set_same (targets_in pairs) m x 0 (omega (arith, targets_length pairs, chains.pairs_room)),
          )
      go (no z) =
          chains.once i e h (omega arith) (
            sym (was_by i before) ∙ p ∙ was_by e z,
            sym (was_against i before) ∙ q ∙ was_against e z,
          )

  pub chains_more : Entered n (m + 1) pairs' links'
  chains_more = record {
    few = chains.few;
    pairs_room = omega (arith, chains.pairs_room, pair_length pairs m y x (begin_against links x) low_y low_x);
    links_room = omega (arith, words, begins_length linked y x (m + 1) low_y low_x words);
    by = rw objectors_more chained_by;
    against = rw targets_more chained_against;
    once = λ i e h k. rw (objectors_more, targets_more) (once i e h k);
  }
