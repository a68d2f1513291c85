-- States of a labelling under way, said of each place and each entry: not for callers. `Agreement` in proofs/ shows that a
-- labelling that is sound and full agrees with itself, and so is the meaning's.
use Rattle.std.specs.Prelude.{◌≡◌, ◌⊎◌, List, [], ◌∷◌, ℕ, zero, suc, ◌+◌, ◌<◌, ◌≤◌, length, get_or}

module _ (marks objectors targets labels lengths : List ℕ) where
  -- what is labelled is right
  pub record Sound : Type 0 where
    pub small : (x : ℕ) → x < length marks → get_or labels x 0 ≤ 2
    pub dash : (x : ℕ) → x < length marks → get_or labels x 0 ≡ 0 → get_or lengths x 0 ≡ 65535
    pub felled : (x : ℕ) → x < length marks → get_or labels x 0 ≡ 2
        → (e : ℕ) × (e < length objectors) × (get_or targets e 0 ≡ x)
        × (get_or labels (get_or objectors e 0) 0 ≡ 1) × (get_or lengths (get_or objectors e 0) 0 + 1 ≡ get_or lengths x 0)
    pub stood : (x : ℕ) → x < length marks → get_or labels x 0 ≡ 1 → get_or marks x 0 ≡ 0
    pub beaten : (e : ℕ) → e < length objectors → get_or labels (get_or targets e 0) 0 ≡ 1
        → (get_or labels (get_or objectors e 0) 0 ≡ 2) × (get_or lengths (get_or objectors e 0) 0 + 1 ≤ get_or lengths
        (get_or targets e 0) 0)
    pub tight : (x : ℕ) → x < length marks → get_or labels x 0 ≡ 1
        → (get_or lengths x 0 ≡ 0)
        ⊎ ((e : ℕ) × (e < length objectors) × (get_or targets e 0 ≡ x) ×
        (get_or lengths (get_or objectors e 0) 0 + 1 ≡ get_or lengths x 0))

  -- nothing is left to label
  pub record Full : Type 0 where
    pub fells : (e : ℕ) → e < length objectors → get_or labels (get_or objectors e 0) 0 ≡ 1
        → (get_or labels (get_or targets e 0) 0 ≡ 2) × (get_or lengths (get_or targets e 0) 0 ≤ get_or lengths
        (get_or objectors e 0) 0 + 1)
    pub holds : (x : ℕ) → x < length marks → get_or marks x 0 ≡ 0 → (get_or labels x 0 ≡ 1 → ⊥)
        → (e : ℕ) × (e < length objectors) × (get_or targets e 0 ≡ x) × (get_or labels (get_or objectors e 0) 0 ≡ 2 → ⊥)

  -- the target of the entry e falls no later than its objector lets it
  abbrev pub Fells : ℕ → Type 0
  Fells e = (get_or labels (get_or targets e 0) 0 ≡ 2) × (get_or lengths (get_or targets e 0) 0 ≤ get_or lengths
      (get_or objectors e 0) 0 + 1)

-- how many places are not labelled
unfoldable pub zeros : List ℕ → ℕ
zeros [] = 0
zeros (zero ∷ l) = suc (zeros l)
zeros (suc a ∷ l) = zeros l

-- the rooms are as long as the marks
pub record Rooms (marks labels lengths : List ℕ) : Type 0 where
  pub labels_room : length labels ≡ length marks
  pub lengths_room : length lengths ≡ length marks

-- nothing is labelled
pub record Blank (marks labels lengths : List ℕ) : Type 0 where
  pub no_label : (x : ℕ) → x < length marks → get_or labels x 0 ≡ 0
  pub no_length : (x : ℕ) → x < length marks → get_or lengths x 0 ≡ 65535
