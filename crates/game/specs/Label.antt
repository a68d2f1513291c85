-- Labels and lengths, by the forced win of Game. There is no other meaning of falls, stands, open and length in the project. What
-- is told of them, `Account` says.
use Rattle.std.specs.Prelude.{◌≡◌, ℕ, ◌≤◌}
use Rattle.game.specs.Book.{Book}
use Rattle.game.specs.Game.{FirstWins, SecondWins}

-- "A statement falls exactly if the first speaker can force a win, stands exactly if the second can, and is otherwise
-- open."
abbrev pub Falls : Book → ℕ → Type 0
Falls B x = (n : ℕ) × FirstWins B n x

abbrev pub Stands : Book → ℕ → Type 0
Stands B x = (n : ℕ) × SecondWins B n x

abbrev pub Open : Book → ℕ → Type 0
Open B x = (¬ Falls B x) × (¬ Stands B x)

-- n is the least number that has the property
abbrev pub Least : (ℕ → Type 0) → ℕ → Type 0
Least P n = P n × ((m : ℕ) → P m → n ≤ m)

-- A verdict is a label with its length. An open statement has none.
pub data Verdict : Type 0 where
  is_open : Verdict
  stands falls : ℕ → Verdict
  deriving Discrete as Verdict-discrete

-- "Its length is the least number of turns that suffices for the winner."
abbrev pub Means : Book → ℕ → Verdict → Type 0
Means B x is_open = Open B x
Means B x (stands n) = Least (λ m. SecondWins B m x) n
Means B x (falls n) = Least (λ m. FirstWins B m x) n
