-- For the workings, not for callers: what the code asks of lists before it works on them, the order that `game` names, and the
-- limits of 01, by which its rooms are sized. Whether lists that a caller hands over are such is left to `lists_check`.
use Rattle.std.specs.Prelude.{List, ℕ, ◌≤◌, length}
use Rattle.game.specs.Book.{InOrder}

-- lists in order and within the limits of 01
pub record Handed (marks objectors targets : List ℕ) : Type 0 where
  pub few_marks : length marks ≤ 1024
  pub few_pairs : length objectors ≤ 4096
  pub order : InOrder marks objectors targets
