-- What is asked of the function that settles what a program prints: it gets a text and a room of some size.
use Rattle.std.specs.Prelude.{ℕ, ◌≡◌, ◌≤◌, List, length}
use Rattle.std.specs.Borrow.{Bor, MutBor}

-- It may be called with any text and any such room.
abbrev pub Takes : (may : Bor (List ℕ) → MutBor (List ℕ) → Type 0) → (size : ℕ) → Type 0
Takes may size = (text : Bor (List ℕ)) (room : MutBor (List ℕ)) → length room.now ≡ size → may text room

-- What it answers is no more than the room has.
abbrev pub PutsInside : (does : Bor (List ℕ) → MutBor (List ℕ) → ℕ → MutBor (List ℕ) → Type 0) → (size : ℕ) → Type 0
PutsInside does size = (text : Bor (List ℕ)) (room : MutBor (List ℕ)) (n : ℕ) (left : MutBor (List ℕ))
    → length room.now ≡ size → does text room n left → n ≤ length left.now
