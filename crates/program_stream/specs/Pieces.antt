-- How what is printed is cut: "the program prints it in pieces of at most 65,536 bytes".
use Rattle.std.specs.Prelude.{List, [], ◌∷◌, ◌++◌, ◌≡◌, ℕ, ◌+◌, ◌≤◌, ◌<◌, take}
use Rattle.std.proofs.Math.Seq.{slice}

-- The piece from `start` to `end`, of a room's first n bytes, has 1 to 65,536 bytes, and joined to those before it makes all
-- that come before `end`.
pub record Piece (room : List ℕ) (n start end : ℕ) : Type 0 where
  pub some : start < end
  pub most : end ≤ start + 65536
  pub inside : end ≤ n
  pub joined : take start room ++ slice start end room ≡ take end room

-- pieces, one after the other, up to a place
pub data Pieces (room : List ℕ) (n : ℕ) : ℕ → List (List ℕ) → Type 0 where
  none_yet : Pieces room n 0 []
  one_more : {start end : ℕ} {before : List (List ℕ)} → Pieces room n start before → Piece room n start end
      → Pieces room n end (before ++ (slice start end room ∷ []))
