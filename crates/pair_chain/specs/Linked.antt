-- Chains of entries, one for each place, and how far a walk along one of them has come. An entry is told counted from 1, and 0
-- tells that there is none. For the code that links and walks, not for callers of the product.
use Rattle.std.specs.Prelude.{List, ◌≡◌, ℕ, ◌+◌, ◌<◌, ◌≤◌, get_or, length}

-- A walk along the chain of the place v has come to what c tells: one of the first m entries that has v, or none. Those of them
-- from there on that have v have been seen, and of each P holds.
pub record Walk (places : List ℕ) (m v : ℕ) (P : ℕ → Type 0) (c : ℕ) : Type 0 where
  pub low : c ≤ m
  pub of : (e : ℕ) → e + 1 ≡ c → get_or places e 0 ≡ v
  pub seen : (e : ℕ) → e < m → get_or places e 0 ≡ v → c ≤ e → P e

-- c tells the latest of the first m entries that has the place v: a walk that has come there has seen none
abbrev pub Latest : List ℕ → (m v c : ℕ) → Type 0
Latest places m v c = Walk places m v (λ e. ⊥) c

-- The first m entries are chained by their places: each place below n begins at the latest of them that has it, and each of them
-- is linked to the latest before it with the same place.
pub record Linked (places : List ℕ) (n m : ℕ) (begin link : ℕ → ℕ) : Type 0 where
  pub begins : (v : ℕ) → v < n → Latest places m v (begin v)
  pub links : (e : ℕ) → e < m → Latest places e (get_or places e 0) (link e)

-- the objections are chained, by objector or by target, in two lists that are long enough
pub record Chains (marks places head next : List ℕ) : Type 0 where
  pub chained : Linked places (length head) (length places) (λ x. get_or head x 0) (λ e. get_or next e 0)
  pub head_room : length marks ≤ length head
  pub next_room : length places ≤ length next
