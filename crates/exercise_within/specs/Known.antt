-- The tables of answers already known, and the chains that are walked: not for callers.
use Rattle.std.specs.Prelude.{Bool, false, true, List, ◌≡◌, ℕ, ◌+◌, ◌*◌, ◌<◌, length, get_or}
use Rattle.game.specs.Book.{Book}
use Rattle.game.specs.Rules.{falls_within, stands_within}
use Rattle.pair_chain.specs.Linked.{Chains}
use Rattle.lists.specs.Handed.{Handed}

-- the lists are in order, and the objections chained by target
abbrev pub Walkable : (marks objectors targets head next : List ℕ) → Type 0
Walkable marks objectors targets head next = Handed marks objectors targets × Chains marks targets head next

-- The table of one question: the entry of each statement x and number of turns t is unknown (0), or it is the right answer
-- (1 no, 2 yes).
pub record Right (question : ℕ → ℕ → Bool) (table : List ℕ) : Type 0 where
  pub room : length table ≡ 7168
  pub denied : (t x : ℕ) → x < 1024 → get_or table (t * 1024 + x) 0 ≡ 1 → question t x ≡ false
  pub granted : (t x : ℕ) → x < 1024 → get_or table (t * 1024 + x) 0 ≡ 2 → question t x ≡ true

pub record Known (B : Book) (falls stands : List ℕ) : Type 0 where
  pub fell : Right (falls_within B) falls
  pub stood : Right (stands_within B) stands
