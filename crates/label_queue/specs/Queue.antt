-- States of the queue and the counters: not for callers.
use Rattle.std.specs.Prelude.{◌≡◌, ◌⊎◌, Bool, true, false, List, [], ◌∷◌, ℕ, suc, zero, ◌+◌, ◌<◌, ◌≤◌, eqb, length, get_or}
use Rattle.label_queue.specs.LabelState.{Sound, zeros, Fells}

abbrev pub one : Bool → ℕ → ℕ
one true n = suc n
one false n = n

-- how many of the objections against x are not marked done
unfoldable pub cnt : List ℕ → List ℕ → ℕ → ℕ
cnt [] done x = 0
cnt (t ∷ ts) [] x = 0
cnt (t ∷ ts) (zero ∷ ds) x = one (eqb t x) (cnt ts ds x)
cnt (t ∷ ts) (suc d ∷ ds) x = cnt ts ds x

-- the objections before i are counted
pub record Counted (marks targets : List ℕ) (i : ℕ) (left : List ℕ) : Type 0 where
  pub done : List ℕ
  pub room : length done ≡ length targets
  pub past : (e : ℕ) → e < i → get_or done e 0 ≡ 0
  pub rest : (e : ℕ) → i ≤ e → e < length targets → get_or done e 0 ≡ 1
  pub counts : (x : ℕ) → x < length marks → get_or left x 0 ≡ cnt targets done x
  pub few : (x : ℕ) → x < length marks → get_or left x 0 ≤ i

-- z is in the queue, from s on and before t
abbrev pub Pending : List ℕ → ℕ → ℕ → ℕ → Type 0
Pending queue s t z = (i : ℕ) × (s ≤ i) × (i < t) × (get_or queue i 0 ≡ z)

-- the objection e is still to be looked at: its objector is in the queue, or is y and e is not past the link c
abbrev pub Owed : List ℕ → List ℕ → ℕ → ℕ → ℕ → ℕ → ℕ → Type 0
Owed objectors queue s t y c e = Pending queue s t (get_or objectors e 0) ⊎ ((get_or objectors e 0 ≡ y) × (e + 1 ≤ c))

-- The labelling with its queue. What is looked at is y, at the link c; what is labelled now gets the length k; the places
-- before lim are settled.
pub record Run (marks objectors targets : List ℕ) (lim s t y c k : ℕ) (labels lengths left queue : List ℕ) : Type 0 where
  pub done : List ℕ
  pub room : length done ≡ length objectors
  pub sound : Sound marks objectors targets labels lengths
  pub places : (i : ℕ) → i < t → get_or queue i 0 < length marks
  pub marked : (i : ℕ) → i < t → get_or labels (get_or queue i 0) 0 ≡ 0 → ⊥
  pub listed : (x : ℕ) → x < length marks → (get_or labels x 0 ≡ 0 → ⊥) → (i : ℕ) × (i < t) × (get_or queue i 0 ≡ x)
  pub unique : (i j : ℕ) → i < t → j < t → get_or queue i 0 ≡ get_or queue j 0 → i ≡ j
  pub sorted : (i j : ℕ) → s ≤ i → i ≤ j → j < t → get_or lengths (get_or queue i 0) 0 ≤ get_or lengths (get_or queue j 0) 0
  pub high : (i : ℕ) → s ≤ i → i < t → k ≤ get_or lengths (get_or queue i 0) 0 + 1
  pub low : (x : ℕ) → x < length marks → (get_or labels x 0 ≡ 0 → ⊥) → get_or lengths x 0 ≤ k
  pub short : (i : ℕ) → i < t → get_or lengths (get_or queue i 0) 0 ≤ i
  pub within : k ≤ t
  pub full : t + zeros labels ≡ length marks
  pub fallen : (e : ℕ) → e < length objectors → (get_or done e 0 ≡ 0 → ⊥)
      → (get_or labels (get_or objectors e 0) 0 ≡ 2) × (get_or lengths (get_or objectors e 0) 0 + 1 ≤ k)
  pub fresh : (e : ℕ) → e < length objectors → Owed objectors queue s t y c e → get_or done e 0 ≡ 0
  pub owed : (e : ℕ) → e < length objectors → get_or done e 0 ≡ 0 → get_or labels (get_or objectors e 0) 0 ≡ 2
      → Owed objectors queue s t y c e
  pub fells : (e : ℕ) → e < length objectors → get_or labels (get_or objectors e 0) 0 ≡ 1
      → Fells marks objectors targets labels lengths e ⊎ Owed objectors queue s t y c e
  pub counts : (x : ℕ) → x < length marks → get_or left x 0 ≡ cnt targets done x
  pub lifted : (x : ℕ) → x < length marks → x < lim → get_or marks x 0 ≡ 0 → get_or left x 0 ≡ 0 → get_or labels x 0 ≡ 1

-- between two places of the queue
pub record QueueAt (marks objectors targets : List ℕ) (h t : ℕ) (labels lengths left queue : List ℕ) : Type 0 where
  pub y : ℕ
  pub k : ℕ
  pub run : Run marks objectors targets (length marks) h t y 0 k labels lengths left queue

-- the rooms for the counts and for the queue are large enough
pub record Spaces (marks left queue : List ℕ) : Type 0 where
  pub left_room : length marks ≤ length left
  pub queue_room : length marks ≤ length queue
