-- The two passes over the objectors when all lines are read: each is looked up and becomes a place, and none may be named twice
-- on a line. Which cards are in order then is left to `AllCards`.
use mathlib.Core.List.{List}
use mathlib.Core.Path.{ap, sym, subst, ◌≡◌, ◌∙◌}
use Prim.Native.Nat.{ℕ, ◌+◌, ◌≤◌, ◌<◌}
use native.Mathlib.Decide.{ℕ_discrete}
use native.Mathlib.Omega.{arith}
use lib.ListN.{length, get_or, set}
use lib.Seq.{get_or-set_same, get_or-set_other}
use Rattle.game.proofs.Find.{further}
use Rattle.catalogue_read.specs.CatalogueState.{FirstLine, PlacedAt, Twice, InLine}

-- The first k objectors are places, and the others are still numbers.
pub record Placing (nums : List ℕ) (n : ℕ) (objectors₀ objectors : List ℕ) (k : ℕ) : Type 0 where
  pub placed : (j : ℕ) → j < k → PlacedAt nums n objectors₀ objectors j
  pub others : (j : ℕ) → k ≤ j → get_or objectors j 0 ≡ get_or objectors₀ j 0

-- None of the first k objectors is named twice on a line, and for each statement `last` has the last line that named it.
pub record Naming (objectors targets last : List ℕ) (k : ℕ) : Type 0 where
  pub none : (j : ℕ) → j < k → ¬ Twice objectors targets j
  pub named : (j : ℕ) → j < k → get_or targets j 0 + 1 ≤ get_or last (get_or objectors j 0) 0
  pub lines : (y : ℕ) → 0 < get_or last y 0 → (j : ℕ) × (j < k) × (get_or objectors j 0 ≡ y) ×
      (get_or targets j 0 + 1 ≡ get_or last y 0)

module _ (objectors targets : List ℕ) where
  module _ (last : List ℕ) (k y line : ℕ) (v : Naming objectors targets last k) (m : ℕ) (l : k < m)
      (at : y ≡ get_or objectors k 0) (on : line ≡ get_or targets k 0 + 1) where
    pub repeated : get_or last y 0 ≡ line → FirstLine (λ j. ¬ Twice objectors targets j) (Twice objectors targets) targets m line
    repeated e =
        let (j, h, p, q) = v.lines y (omega arith) in
        (k, l, v.none, (j, h, p ∙ at, omega arith), on)

    module _ (order : InLine targets m) (new : get_or last y 0 ≡ line → ⊥) where
      once : ¬ Twice objectors targets k
      once (j, h, p, q) =
          let a : get_or targets j 0 + 1 ≤ get_or last y 0 = subst (λ x. get_or targets j 0 + 1 ≤ get_or last x 0) (p ∙ sym at)
          (v.named j h) in
          let (i, g, r, t) = v.lines y (omega arith) in
          new (omega (arith, order.rising i k g l))

      pub one_named : y < length last → Naming objectors targets (set last y line) (k + 1)
      one_named room = record {
        none = further (Twice objectors targets) k v.none once;
        named = λ j h. named j h (ℕ_discrete (get_or objectors j 0) y);
        lines = λ x. lines x (ℕ_discrete x y);
      }
        where
          same : get_or (set last y line) y 0 ≡ line
          same = get_or-set_same last y line 0 room

          behind : (j : ℕ) → j < k + 1 → get_or targets j 0 ≤ get_or targets k 0
          behind j h = go (ℕ_discrete j k)
            where
              go : Dec (j ≡ k) → get_or targets j 0 ≤ get_or targets k 0
              go (yes e) = rw e (omega arith)
              go (no f) = order.rising j k (omega arith) l

          named : (j : ℕ) → j < k + 1 → Dec (get_or objectors j 0 ≡ y)
              → get_or targets j 0 + 1 ≤ get_or (set last y line) (get_or objectors j 0) 0
          named j h (yes e) = rw (e, same) (omega (arith, behind j h))
          named j h (no f) =
              let i : j < k = earlier (ℕ_discrete j k) in
              rw (get_or-set_other last y (get_or objectors j 0) line 0 f) (v.named j i)
            where
              earlier : Dec (j ≡ k) → j < k
              earlier (yes e) = absurd (f (ap (λ i. get_or objectors i 0) e ∙ sym at))
              earlier (no g) = omega arith

          lines : (x : ℕ) → Dec (x ≡ y) → 0 < get_or (set last y line) x 0 → (j : ℕ) × (j < k + 1) × (get_or objectors j 0 ≡ x)
              × (get_or targets j 0 + 1 ≡ get_or (set last y line) x 0)
          lines x (yes e) h = (k, omega arith, sym at ∙ sym e, sym on ∙ sym same ∙ ap (λ i. get_or (set last y line) i 0) (sym e))
          lines x (no f) h =
              let o : get_or (set last y line) x 0 ≡ get_or last x 0 = get_or-set_other last y x line 0 f in
              let (j, i, p, q) = v.lines x (omega arith) in
              (j, omega arith, p, q ∙ sym o)
