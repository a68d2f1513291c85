-- What the class exercise answers. "It answers two yes-or-no questions [..]: does it fall within so many turns, does it stand
-- within so many." The numbers are the labels' own.
use Rattle.std.specs.Prelude.{◌↔◌, ◌≡◌, ℕ, ◌≤◌}
use Rattle.game.specs.Book.{Book}
use Rattle.game.specs.Game.{FirstWins, SecondWins}

-- 2 where the first speaker can force a win within the turns, 1 where the second can, else 0
pub record Answered (B : Book) (x turns answer : ℕ) : Type 0 where
  pub falls : (answer ≡ 2) ↔ FirstWins B turns x
  pub stands : (answer ≡ 1) ↔ SecondWins B turns x
  pub small : answer ≤ 2
