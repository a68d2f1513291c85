-- The promise of the call for kinds on handed lists: they are those of the book that the lists make.
use Rattle.std.specs.Prelude.{List, ◌⊎◌, ◌≡◌, ℕ, ◌<◌, length, get_or}
use Rattle.game.specs.Book.{book_of}
use Rattle.game.specs.Account.{Account, OfObjection, account_number, account_length}
use Rattle.answer.specs.Answer.{Begins, Short}
use Rattle.answer.specs.Answer.{Answer}
use Rattle.promises.specs.OnLists.{OnLists}

-- either room is shorter than the answer
abbrev pub KindsShort : (objectors : List ℕ) → List ℕ × List ℕ → Type 0
KindsShort objectors rooms = (length rooms.0 < length objectors) ⊎ (length rooms.1 < length objectors)

module _ (marks objectors targets : List ℕ) where
  -- a number of what is told of each objection, in the order of the lists
  abbrev pub Objections : (Account → ℕ) → ℕ → List ℕ → List ℕ → Type 0
  Objections number n room after =
      Begins n (λ k e. (a : Account)
      × OfObjection (book_of marks objectors targets) (get_or objectors k 0) (get_or targets k 0) a × (e ≡ number a)) room after

  -- kinds and lengths, each in its own room
  abbrev pub KindsIn : List ℕ × List ℕ → ℕ → List ℕ × List ℕ → Type 0
  KindsIn rooms n after =
      (n ≡ length objectors) × Objections account_number n rooms.0 after.0 × Objections account_length n rooms.1 after.1

  abbrev pub PairsKinds : List ℕ × List ℕ → Answer → List ℕ × List ℕ → Type 0
  PairsKinds rooms = OnLists marks objectors targets (Short (KindsShort objectors rooms)) (KindsIn rooms) rooms
