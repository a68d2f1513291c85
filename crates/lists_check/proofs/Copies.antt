-- The rooms of our own hold the pairs that are passed, so that a pair stands in them exactly where it stands earlier in the
-- lists.
use mathlib.Core.List.{List}
use mathlib.Core.Path.{sym, ◌≡◌, ◌∙◌}
use Prim.Native.Nat.{ℕ, ◌≤◌, ◌<◌}
use native.Mathlib.Omega.{arith}
use lib.ListN.{length, get_or}
use Rattle.game.specs.Questions.{Found}
use Rattle.pair_repeat.proofs.Unpacked.{Copied}
use Rattle.lists.specs.Refuses.{Same, Repeat}

pub no_repeat : (objectors targets by against : List ℕ) (k : ℕ) → Copied by objectors k → Copied against targets k
    → ((j : ℕ) → j < k → ¬ Same by against (get_or objectors k 0) (get_or targets k 0) j) → ¬ Repeat objectors targets k
no_repeat objectors targets by against k copied-by copied-against new (_, (j, b, (s, t))) =
    new j b (copied-by j b ∙ s, copied-against j b ∙ t)

-- the same of what a search over the rooms found
module _ (objectors targets by against : List ℕ) (k y x : ℕ) (h : k < length objectors) (copied-by : Copied by objectors k)
    (copied-against : Copied against targets k) (p : y ≡ get_or objectors k 0) (q : x ≡ get_or targets k 0) (r : ℕ)
    (found : Found (Same by against y x) k r) where
  pub is_repeat : r < k → Repeat objectors targets k
  is_repeat l = (h, (r, l, (sym (copied-by r l) ∙ (found.2 l).0 ∙ p, sym (copied-against r l) ∙ (found.2 l).1 ∙ q)))

  pub none_found : k ≤ r → ¬ Repeat objectors targets k
  none_found l =
      no_repeat objectors targets by against k copied-by copied-against
      (λ j b same. found.1 j (omega arith) (same.0 ∙ sym p, same.1 ∙ sym q))
