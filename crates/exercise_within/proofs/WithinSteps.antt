-- What the code may conclude where its walk along the chain of a statement ends, or is left.
use mathlib.Core.Bool.{Bool, false, true}
use mathlib.Core.List.{List}
use mathlib.Core.Path.{ap, sym, ◌≡◌, ◌∙◌}
use Prim.Native.Nat.{ℕ, ◌+◌, ◌-◌, ◌*◌, ◌<◌, ◌≤◌}
use native.Mathlib.Omega.{arith}
use lib.ListN.{length, get_or, set}
use Rattle.game.specs.Book.{Book, book_of}
use Rattle.game.specs.Rules.{falls_within, stands_within}
use Rattle.lists.specs.Handed.{Handed}
use Rattle.pair_chain.specs.Linked.{Walk}
use Rattle.exercise_within.specs.Known.{Known}
use Rattle.exercise_within.proofs.Entries.{Weak, falls_some, falls_not, Beaten, stands_late, stands_not, stands_all}
use Rattle.exercise_within.proofs.KnownTable.{falls_put, stands_put}
use Rattle.pair_chain.proofs.ChainWalks.{walk_entry, walk_ends}

-- what was answered of y was answered of the objector that y is
said : (q : ℕ → Bool) (y z : ℕ) (r b : Bool) → y ≡ z → r ≡ q y → r ≡ b → q z ≡ b
said q y z r b e a p = ap q (sym e) ∙ sym a ∙ p

module _ {marks objectors targets : List ℕ} (handed : Handed marks objectors targets) (x turns : ℕ) (listed : x < length marks)
    (few : turns ≤ 6) {falls stands : List ℕ} (k : Known (book_of marks objectors targets) falls stands) where
  abbrev B : Book
  B = book_of marks objectors targets

  small : x < 1024
  small = omega (arith, handed.few_marks)

  module _ (late : turns ≡ 0 → ⊥) (c : ℕ) (w : Walk targets (length targets) x (Weak marks objectors targets turns) c) where
    pub falls_found : (c ≡ 0 → ⊥) → (y : ℕ) (r : Bool) → y ≡ get_or objectors (c - 1) 0 → r ≡ stands_within B (turns - 1) y
        → r ≡ true → (true ≡ falls_within B turns x) × Known B (set falls (turns * 1024 + x) 2) stands
    falls_found n y r e a p =
        let (l, o) = walk_entry w n in
        falls_put B falls stands k turns x small few true
        (falls_some marks objectors targets handed x (c - 1) l o turns late
        (said (stands_within B (turns - 1)) y (get_or objectors (c - 1) 0) r true e a p))

    pub falls_ends : c ≡ 0 → (false ≡ falls_within B turns x) × Known B (set falls (turns * 1024 + x) 1) stands
    falls_ends z =
        falls_put B falls stands k turns x small few false
        (falls_not marks objectors targets handed x turns late (walk_ends w z))

  module _ (c : ℕ) (w : Walk targets (length targets) x (Beaten marks objectors targets turns) c) where
    pub stands_too_late : (c ≡ 0 → ⊥) → turns ≡ 0 → (false ≡ stands_within B turns x) × Known B falls stands
    stands_too_late n z =
        let (l, o) = walk_entry w n in
        (stands_late marks objectors targets handed x (c - 1) l o turns z, k)

    pub stands_lost : (c ≡ 0 → ⊥) → (turns ≡ 0 → ⊥) → (y : ℕ) (r : Bool) → y ≡ get_or objectors (c - 1) 0
        → r ≡ falls_within B (turns - 1) y
        → r ≡ false → (false ≡ stands_within B turns x) × Known B falls (set stands (turns * 1024 + x) 1)
    stands_lost n late y r e a p =
        let (l, o) = walk_entry w n in
        stands_put B falls stands k turns x small few false
        (stands_not marks objectors targets handed x (c - 1) l o turns late
        (said (falls_within B (turns - 1)) y (get_or objectors (c - 1) 0) r false e a p))

    pub stands_ends : get_or marks x 0 ≡ 0 → c ≡ 0 → (true ≡ stands_within B turns x)
        × Known B falls (set stands (turns * 1024 + x) 2)
    stands_ends m z =
        stands_put B falls stands k turns x small few true
        (stands_all marks objectors targets handed x turns m (walk_ends w z))
