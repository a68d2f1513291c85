-- What the line of argument leaves in a lent room, and the states on the way to it. The line itself is `game`'s.
use Rattle.std.specs.Prelude.{List, ◌++◌, ◌≡◌, ℕ, ◌≤◌, ◌<◌, length, drop, get_or}
use Rattle.game.specs.Book.{Book}
use Rattle.game.specs.Argument.{Argument}

-- The line of x has n entries. They are in the room, with what was there beyond them; or, where there is too little room, the
-- room is as found.
pub record ArgumentIn (B : Book) (x : ℕ) (room : List ℕ) (n : ℕ) (after : List ℕ) : Type 0 where
  pub line : List ℕ
  pub is_line : Argument B x line
  pub counts : n ≡ length line
  pub fits : length line ≤ length room → after ≡ line ++ drop (length line) room
  pub short : length room < length line → after ≡ room

-- Not for callers: n is the length of x, or 0 where x is open
abbrev pub Turns : (labels lengths : List ℕ) → ℕ → ℕ → Type 0
Turns labels lengths x n = (get_or labels x 0 ≡ 0 → n ≡ 0) × ((get_or labels x 0 ≡ 0 → ⊥) → n ≡ get_or lengths x 0)

-- the other of stands and falls
abbrev pub Other : (label other : ℕ) → Type 0
Other label other = (label ≡ 1 → other ≡ 2) × (label ≡ 2 → other ≡ 1)

-- y objects to x, and has this label and this length
abbrev pub ObjectsWith : (objectors targets labels lengths : List ℕ) → (x label turns y : ℕ) → Type 0
ObjectsWith objectors targets labels lengths x label turns y =
    ((e : ℕ) × (e < length objectors) × (get_or targets e 0 ≡ x) × (get_or objectors e 0 ≡ y))
    × (get_or labels y 0 ≡ label) × (get_or lengths y 0 ≡ turns)
