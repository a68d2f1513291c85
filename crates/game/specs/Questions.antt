-- For the workings, not for callers: questions and searches, as contracts below the calls say them. No promise cites them.
use Rattle.std.specs.Prelude.{Bool, true, false, Option, Some, None, ℕ, ◌≤◌, ◌<◌}

-- a test answers whether it is so
abbrev pub Decides : Type 0 → Bool → Type 0
Decides P true = P
Decides P false = ¬ P

-- r is the first of the entries below n that has the property, or there is none and r is n
abbrev pub Found : (ℕ → Type 0) → ℕ → ℕ → Type 0
Found P n r = (r ≤ n) × ((j : ℕ) → j < r → ¬ P j) × (r < n → P r)

-- r tells the first of the entries below n that has the property, or that there is none
abbrev pub FirstBelow : (ℕ → Type 0) → ℕ → Option ℕ → Type 0
FirstBelow P n None = (j : ℕ) → j < n → ¬ P j
FirstBelow P n (Some r) = (r < n) × ((j : ℕ) → j < r → ¬ P j) × P r
