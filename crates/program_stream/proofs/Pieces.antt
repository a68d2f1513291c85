-- Pieces that come one after the other are, joined, the bytes up to where the last one ends.
use mathlib.Core.List.{List, append_assoc, [], ◌∷◌, ◌++◌}
use mathlib.Core.Path.{ap, sym, refl, ◌≡◌, ◌∙◌}
use Prim.Native.Nat.{ℕ}
use lib.ListN.{take}
use lib.Seq.{slice}
use Rattle.program_stream.specs.Pieces.{Pieces, none_yet, one_more}

abbrev pub join : List (List ℕ) → List ℕ
join [] = []
join (piece ∷ pieces) = piece ++ join pieces

join_last : (pieces : List (List ℕ)) (piece : List ℕ) → join (pieces ++ (piece ∷ [])) ≡ join pieces ++ piece
join_last [] piece = nil piece
  where
    nil : (u : List ℕ) → u ++ [] ≡ u
    nil [] = refl
    nil (c ∷ u) = ap (λ v. c ∷ v) (nil u)
join_last (first ∷ pieces) piece = ap (λ u. first ++ u) (join_last pieces piece) ∙ sym (append_assoc first (join pieces) piece)

-- all pieces of the first n bytes, joined, are the first n bytes
pub pieces_joined : (room : List ℕ) (n end : ℕ) (pieces : List (List ℕ)) → Pieces room n end pieces → join pieces ≡ take end room
pieces_joined room n at pieces none_yet = refl
pieces_joined room n at pieces (one_more {start} {end} {before} p piece) =
    join_last before (slice start end room) ∙ ap (λ u. u ++ slice start end room) (pieces_joined room n start before p)
    ∙ piece.joined
