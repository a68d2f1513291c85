-- Bytes put into a lent room, from a place on. What the bytes are is for others to say.
use Rattle.std.specs.Prelude.{List, [], ◌∷◌, ◌++◌, ◌≡◌, ℕ, ◌+◌, ◌/◌, ◌%◌, ◌≤◌, take, drop, length}

-- a room after bytes were written at a place: those before it and those behind stay as found
abbrev pub room_with : List ℕ → ℕ → List ℕ → List ℕ
room_with room at bytes = take at room ++ (bytes ++ drop (at + length bytes) room)

-- the bytes fit a room from a place on
abbrev pub RoomFor : List ℕ → ℕ → List ℕ → Type 0
RoomFor room at bytes = at + length bytes ≤ length room

-- the bytes were put into the room at a place, and `end` is the place behind them
pub record Put (room : List ℕ) (at : ℕ) (bytes : List ℕ) (end : ℕ) (room' : List ℕ) : Type 0 where
  pub ends : end ≡ at + length bytes
  pub is : room' ≡ room_with room at bytes

-- the two digits of a number below 100, the first of them 0 if it has but one
abbrev pub two_digits : ℕ → List ℕ
two_digits n = (48 + n / 10) ∷ (48 + n % 10) ∷ []
