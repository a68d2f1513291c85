-- What a store does to a list, and how chains grow: at first no entry is linked; one entry more is linked to the latest with its
-- place, and the chain of that place begins there.
use mathlib.Core.List.{List}
use mathlib.Core.Logic.{inl, inr, ⊎_elim, ◌⊎◌}
use mathlib.Core.Path.{sym, ap, ◌≡◌, ◌∙◌}
use Prim.Native.Nat.{ℕ, ◌+◌, ◌<◌}
use native.Mathlib.Decide.{ℕ_discrete, dec_lt}
use native.Mathlib.Omega.{arith}
use lib.ListN.{length, get_or, set, replicate, get_or-replicate, get_or-eq_default, length-replicate}
use lib.Seq.{get_or-set_same, get_or-set_other}
use Rattle.pair_chain.specs.Linked.{Latest, Linked}

-- What a store did at i: what it stores at its entry, and nothing elsewhere.
abbrev pub Stored : (i e : ℕ) (now was put : ℕ) → Type 0
Stored i e now was put = ((i ≡ e) × (now ≡ put)) ⊎ ((i ≡ e → ⊥) × (now ≡ was))

pub stored : (l : List ℕ) (e v : ℕ) → e < length l → (i : ℕ) → Stored i e (get_or (set l e v) i 0) (get_or l i 0) v
stored l e v h i = go (ℕ_discrete i e)
  where
    go : Dec (i ≡ e) → Stored i e (get_or (set l e v) i 0) (get_or l i 0) v
    go (yes p) = inl (p, rw p (get_or-set_same l e v 0 h))
    go (no p) = inr (p, get_or-set_other l e i v 0 p)

-- a room of zeros has no other entry
pub all_zero : (n x : ℕ) → get_or (replicate {A = ℕ} n 0) x 0 ≡ 0
all_zero n x = go (dec_lt x n)
  where
    go : Dec (x < n) → get_or (replicate {A = ℕ} n 0) x 0 ≡ 0
    go (yes h) = get_or-replicate {A = ℕ} n x 0 0 h
    go (no h) = get_or-eq_default (replicate {A = ℕ} n 0) 0 (omega (arith, length-replicate {A = ℕ} n 0))

pub split : {e i : ℕ} → e < i + 1 → (e < i) ⊎ (e ≡ i)
split {e} {i} h = go (dec_lt e i)
  where
    go : Dec (e < i) → (e < i) ⊎ (e ≡ i)
    go (yes p) = inl p
    go (no p) = inr (omega arith)

-- the latest is found among the entries before m alone
latest_same : {places others : List ℕ} {m v l : ℕ} → ((i : ℕ) → i < m → get_or others i 0 ≡ get_or places i 0) → Latest places m v
    l
    → Latest others m v l
latest_same same w = record {
  low = w.low;
  of = λ i p. same i (omega (arith, w.low)) ∙ w.of i p;
  seen = λ i h p k. w.seen i h (sym (same i h) ∙ p) k;
}

-- an entry with another place, and one with this place
latest_past : {places : List ℕ} {m v l : ℕ} → (get_or places m 0 ≡ v → ⊥) → Latest places m v l → Latest places (m + 1) v l
latest_past {places} other w = record {
  low = omega (arith, w.low);
  of = w.of;
  seen = λ i h p k. ⊎_elim (λ l. w.seen i l p k) (λ q. other (ap (λ a. get_or places a 0) (sym q) ∙ p)) (split h);
}

latest_here : {places : List ℕ} (m : ℕ) {v : ℕ} → get_or places m 0 ≡ v → Latest places (m + 1) v (m + 1)
latest_here {places} m p = record {
  low = omega arith;
  of = λ i q. let e : i ≡ m = omega arith in ap (λ a. get_or places a 0) e ∙ p;
  seen = λ i h q k. omega arith;
}

-- no chain has begun
pub linked_none : {places : List ℕ} {n : ℕ} {begin link : ℕ → ℕ} → ((v : ℕ) → v < n → begin v ≡ 0) → Linked places n 0 begin link
linked_none none = record {
  begins = λ v h. rw (none v h) (record { low = omega arith; of = λ i p. absurd (omega arith); seen = λ i k p l. omega arith });
  links = λ e h. absurd (omega arith);
}

-- other lists with the same entries are linked too
pub linked_same : {places others : List ℕ} {n m : ℕ} {begin link : ℕ → ℕ}
    → ((i : ℕ) → i < m → get_or others i 0 ≡ get_or places i 0) → Linked places n m begin link → Linked others n m begin link
linked_same same linked = record {
  begins = λ v h. latest_same same (linked.begins v h);
  links = λ e h. rw (same e h) (latest_same (λ i k. same i (omega arith)) (linked.links e h));
}

-- one entry more, with the place v behind m entries
module _ {places : List ℕ} {n m v : ℕ} {begin link begin' link' : ℕ → ℕ} (linked : Linked places n m begin link) (place : v < n)
    (here : get_or places m 0 ≡ v) (begun : (u : ℕ) → u < n → Stored u v (begin' u) (begin u) (m + 1))
    (put : (e : ℕ) → e < m + 1 → Stored e m (link' e) (link e) (begin v)) where
  begins : (u : ℕ) → u < n → Stored u v (begin' u) (begin u) (m + 1) → Latest places (m + 1) u (begin' u)
  begins u h (inl (p, q)) = rw q (latest_here m (here ∙ sym p))
  begins u h (inr (p, q)) = rw q (latest_past (λ z. p (sym z ∙ here)) (linked.begins u h))

  links : (e : ℕ) → e < m + 1 → Stored e m (link' e) (link e) (begin v) → Latest places e (get_or places e 0) (link' e)
  links e h (inl (p, q)) = rw (q, p, here) (linked.begins v place)
  links e h (inr (p, q)) = rw q (linked.links e (omega arith))

  pub linked_more : Linked places n (m + 1) begin' link'
  linked_more = record { begins = λ u h. begins u h (begun u h); links = λ e h. links e h (put e h) }
