-- What reading answers: the bytes that were read, or that a read failed. Which bytes came, no contract can say.
use Rattle.std.specs.Prelude.{ℕ, ◌≤◌, List, length, Option, Some, None}
use Rattle.std.specs.Borrow.{Bor}

-- no more bytes than there is room for
abbrev pub Within : ℕ → Option (Bor (List ℕ)) → Type 0
Within most (Some bytes) = length bytes.now ≤ most
Within most None = Unit {0}
