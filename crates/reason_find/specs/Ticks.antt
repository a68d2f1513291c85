-- What a walk through a reason leaves in a lent room, and the states on the way to it. The reason itself is `game`'s.
use Rattle.std.specs.Prelude.{List, ◌⊎◌, ◌↔◌, ◌≡◌, ℕ, ◌+◌, ◌≤◌, ◌<◌, get_or, length}
use Rattle.game.specs.Book.{book_of, Book, Listed}
use Rattle.game.specs.Reason.{InReason, Reaches}
use Rattle.label_queue.specs.LabelState.{zeros}

-- the place x has a tick in the room
abbrev pub Ticked : List ℕ → ℕ → Type 0
Ticked room x = get_or room x 0 ≡ 0 → ⊥

-- exactly the objections in the reason for a have a tick
abbrev pub Chosen : (marks objectors targets : List ℕ) → ℕ → List ℕ → Type 0
Chosen marks objectors targets a inside =
    (k : ℕ) → k < length objectors
    → Ticked inside k ↔ InReason (book_of marks objectors targets) a (get_or objectors k 0) (get_or targets k 0)

-- The rest is not for callers. Exactly the statements that the reason for a comes to have a tick.
abbrev pub ReachTicked : Book → ℕ → List ℕ → Type 0
ReachTicked B a room = (x : ℕ) → Listed B x → Ticked room x ↔ Reaches B a x

-- the queue's first t places are those below n that have a tick, each of them once
pub record Queued (n t : ℕ) (room queue : List ℕ) : Type 0 where
  pub same : length room ≡ n
  pub space : n ≤ length queue
  pub full : t + zeros room ≡ n
  pub places : (i : ℕ) → i < t → (get_or queue i 0 < n) × Ticked room (get_or queue i 0)
  pub each : (x : ℕ) → Ticked room x → (i : ℕ) × (i < t) × (get_or queue i 0 ≡ x)

-- Ticks are added, of statements of which P holds: what had one has it still, and the queue goes on from t to r.
pub record Grown (P : ℕ → Type 0) (n t : ℕ) (room queue : List ℕ) (r : ℕ) (room' queue' : List ℕ) : Type 0 where
  pub queued : Queued n r room' queue'
  pub kept : (x : ℕ) → Ticked room x → Ticked room' x
  pub new : (x : ℕ) → Ticked room' x → Ticked room x ⊎ P x
  pub longer : t ≤ r
  pub as_long : length queue' ≡ length queue
  pub before : (i : ℕ) → i < t → get_or queue' i 0 ≡ get_or queue i 0
