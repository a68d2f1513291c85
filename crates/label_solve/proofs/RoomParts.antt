-- A room of which only the beginning was lent: what it holds when that part comes back.
use mathlib.Core.List.{List, ◌++◌}
use mathlib.Core.Path.{ap, subst₂, sym, ◌≡◌, ◌∙◌}
use Prim.Native.Nat.{ℕ, ◌+◌, ◌-◌, ◌≤◌}
use native.Mathlib.Omega.{arith}
use lib.ListN.{length, take, length-take, get_or, drop, get_or-append}
use lib.Seq.{get_or-append-add, get_or-drop}
use Rattle.game.specs.Book.{book_of}
use Rattle.label_solve.specs.Labelled.{Told}
use Rattle.label_solve.specs.Labelled.{Labelled, Solved}

pub part_length : (n : ℕ) (room : List ℕ) → n ≤ length room → length (take n room) ≡ n
part_length n room h = simp length-take (omega arith)

-- beyond the part that was lent, the room is as it was
pub beyond : (n : ℕ) (room part : List ℕ) → length part ≡ n → (k : ℕ) → n ≤ k → get_or (part ++ drop n room) k 0 ≡ get_or room k 0
beyond n room part e k h =
    ap (λ i. get_or (part ++ drop n room) i 0) at_k ∙ get_or-append-add part (drop n room) (k - n) 0 ∙ get_or-drop n room (k - n)
    0
    ∙ ap (λ i. get_or room i 0) back
  where
    at_k : k ≡ length part + (k - n)
    at_k = omega arith

    back : n + (k - n) ≡ k
    back = omega arith

pub solved_parts : (marks objectors targets labels lengths p q : List ℕ) → length p ≡ length marks → length q ≡ length marks
    → Labelled (book_of marks objectors targets) p q → Solved marks objectors targets labels lengths
    (p ++ drop (length marks) labels) (q ++ drop (length marks) lengths)
unfolding book_of
solved_parts marks objectors targets labels lengths p q hp hq l = record {
  labelled =
      record {
        told = λ x h. subst₂ (λ a b. Told (book_of marks objectors targets) x a b)
            (sym (get_or-append p (drop (length marks) labels) 0 x (omega arith)))
            (sym (get_or-append q (drop (length marks) lengths) 0 x (omega arith))) (l.told x h);
      };
  labels_rest = beyond (length marks) labels p hp;
  lengths_rest = beyond (length marks) lengths q hq;
}
