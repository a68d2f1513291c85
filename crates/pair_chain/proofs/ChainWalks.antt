-- A walk along a chain sees every entry of its place: it begins where the chain does, goes on by the links, and ends at 0.
use mathlib.Core.List.{List}
use mathlib.Core.Path.{sym, ◌≡◌, ◌∙◌}
use Prim.Native.Nat.{ℕ, ◌-◌, ◌<◌, ◌≤◌}
use native.Mathlib.Decide.{dec_le, ℕ_discrete}
use native.Mathlib.Omega.{arith}
use lib.ListN.{get_or}
use Rattle.pair_chain.specs.Linked.{Walk, Latest, Linked}

-- what is seen stays seen
pub walk_map : {places : List ℕ} {m v c : ℕ} {P Q : ℕ → Type 0} → ((e : ℕ) → P e → Q e) → Walk places m v P c
    → Walk places m v Q c
walk_map f w = record { low = w.low; of = w.of; seen = λ e h o l. f e (w.seen e h o l) }

module _ {places : List ℕ} {m v c : ℕ} {P : ℕ → Type 0} (w : Walk places m v P c) where
  -- the entry at the link is one of v
  pub walk_entry : (c ≡ 0 → ⊥) → (c - 1 < m) × (get_or places (c - 1) 0 ≡ v)
  walk_entry on = (omega (arith, w.low), w.of (c - 1) (omega arith))

  -- at its end, all are seen
  pub walk_ends : c ≡ 0 → (e : ℕ) → e < m → get_or places e 0 ≡ v → P e
  walk_ends z e h o = w.seen e h o (omega arith)

module _ {places : List ℕ} {n m v : ℕ} {begin link : ℕ → ℕ} {P : ℕ → Type 0} (linked : Linked places n m begin link) where
  pub walk_begins : v < n → {c : ℕ} → c ≡ begin v → Walk places m v P c
  walk_begins h p = rw p (walk_map (λ e z. absurd z) (linked.begins v h))

  module _ {c d : ℕ} (w : Walk places m v P c) (on : c ≡ 0 → ⊥) (p : d ≡ link (c - 1)) where
    here : (c - 1 < m) × (get_or places (c - 1) 0 ≡ v)
    here = walk_entry w on

    further : Latest places (c - 1) (get_or places (c - 1) 0) (link (c - 1))
    further = linked.links (c - 1) here.0

    pub walk_lower : d < c
    walk_lower = omega (arith, further.low)

    pub walk_more : P (c - 1) → Walk places m v P d
    walk_more q = record {
      low = omega (arith, w.low, walk_lower);
      of = λ e r. further.of e (r ∙ p) ∙ here.1;
      seen = λ e h o l. go e h o l (dec_le c e) (ℕ_discrete e (c - 1));
    }
      where
        go : (e : ℕ) → e < m → get_or places e 0 ≡ v → d ≤ e → Dec (c ≤ e) → Dec (e ≡ c - 1) → P e
        go e h o l (yes k) r = w.seen e h o k
        go e h o l (no k) (yes r) = rw r q
        go e h o l (no k) (no r) = absurd (further.seen e (omega arith) (o ∙ sym here.1) (omega arith))
