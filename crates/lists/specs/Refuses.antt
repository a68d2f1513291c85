-- Which handed lists are accepted, and which fault the others have: 01's "For lists: 11, 6, 9, 12, 13, 8, [..] each over
-- the whole list with the first entry at fault reported". What each call refuses besides is left to the calls.
use Rattle.std.specs.Prelude.{List, ◌⊎◌, ◌≡◌, ℕ, ◌≤◌, ◌<◌, length, get_or}
use Rattle.game.specs.Book.{InOrder}
use Rattle.game.specs.Find.{First}
use Rattle.lists.specs.declared.ListsFault.{ListsFault}
use Rattle.lists.specs.declared.ListsFault.TheVariants.{Unequal, Statements, Objections, Mark, Place, Repeated}

-- 12: "mark other than 0 or 1"
abbrev pub BadMark : (marks : List ℕ) → ℕ → Type 0
BadMark marks k = (k < length marks) × (1 < get_or marks k 0)

-- 13: "a place outside the mark list"
abbrev pub BadPlace : (marks objectors targets : List ℕ) → ℕ → Type 0
BadPlace marks objectors targets k =
    (k < length objectors) × ((length marks ≤ get_or objectors k 0) ⊎ (length marks ≤ get_or targets k 0))

-- the entry j is the objection of y against x
abbrev pub Same : (objectors targets : List ℕ) → ℕ → ℕ → ℕ → Type 0
Same objectors targets y x j = (get_or objectors j 0 ≡ y) × (get_or targets j 0 ≡ x)

-- 8: "same objector and target as earlier"
abbrev pub Repeat : (objectors targets : List ℕ) → ℕ → Type 0
Repeat objectors targets k =
    (k < length objectors) × ((j : ℕ) × (j < k) × Same objectors targets (get_or objectors k 0) (get_or targets k 0) j)

module _ (marks objectors targets : List ℕ) where
  -- equal lengths, within the limits, marks 0 or 1, places inside, no pair twice
  pub record Lists : Type 0 where
    pub few_marks : length marks ≤ 1024
    pub few_pairs : length objectors ≤ 4096
    pub order : InOrder marks objectors targets
    pub distinct : (k : ℕ) → ¬ Repeat objectors targets k

  -- The fault, row by row in 01's order: each row says that no earlier one applies.
  abbrev pub Refuses : ListsFault → Type 0
  Refuses Unequal = ¬ (length targets ≡ length objectors)
  Refuses Statements = (length targets ≡ length objectors) × (1024 < length marks)
  Refuses Objections = (length targets ≡ length objectors) × (length marks ≤ 1024) × (4096 < length objectors)
  Refuses (Mark k) =
      (length targets ≡ length objectors) × (length marks ≤ 1024) × (length objectors ≤ 4096) × First (BadMark marks) k
  Refuses (Place k) =
      (length targets ≡ length objectors) × (length marks ≤ 1024) × (length objectors ≤ 4096) × ((j : ℕ) → ¬ BadMark marks j)
      × First (BadPlace marks objectors targets) k
  Refuses (Repeated k) =
      (length targets ≡ length objectors) × (length marks ≤ 1024) × (length objectors ≤ 4096) × ((j : ℕ) → ¬ BadMark marks j)
      × ((j : ℕ) → ¬ BadPlace marks objectors targets j) × First (Repeat objectors targets) k
