-- Which words no program takes.
use Rattle.std.specs.Prelude.{Bool, true, false, List, ◌∷◌, ◌≡◌, ℕ}

-- a word that begins with `-`, as an option does, and one that does not
abbrev pub Option : (word : List ℕ) → Bool → Type 0
Option word true = (rest : List ℕ) × (word ≡ 45 ∷ rest)
Option word false = (rest : List ℕ) → word ≡ 45 ∷ rest → ⊥
