-- The first entry that has a property.
use Rattle.std.specs.Prelude.{ℕ, ◌<◌}

-- k is the first entry that has the property
abbrev pub First : (ℕ → Type 0) → ℕ → Type 0
First P k = P k × ((j : ℕ) → j < k → ¬ P j)
