-- The book that handed lists make, entry by entry.
use mathlib.Core.Bool.{Bool, ◌&&◌}
use mathlib.Core.List.{List}
use mathlib.Core.Logic.{◌↔◌}
use mathlib.Core.Path.{refl, subst, ◌≡◌}
use Prim.Native.Nat.{ℕ, ◌<◌}
use lib.Dec.{eqb, eqb→eq, T, eqb_refl}
use lib.ListN.{length, get_or}
use Rattle.game.specs.Book.{Objects, InOrder, book_of}
use Rattle.game.specs.Account.{Account, OfObjection}
use Rattle.game.proofs.Account.{objection_told_lem}
use Rattle.game.proofs.Search.{any_at, both, any_of, and_of}

module _ (marks objectors targets : List ℕ) where
  abbrev pub Entry : ℕ → ℕ → ℕ → Type 0
  Entry y x k = (k < length objectors) × (get_or objectors k 0 ≡ y) × (get_or targets k 0 ≡ x)

  entry : ℕ → ℕ → ℕ → Bool
  entry y x k = eqb (get_or objectors k 0) y && eqb (get_or targets k 0) x

  -- y objects to x exactly if it is listed and some entry says so
  pub objects_entry : (y x : ℕ) → Objects (book_of marks objectors targets) y x ↔ ((y < length marks) × ((k : ℕ) × Entry y x k))
  unfolding book_of entry
  objects_entry y x = (to, from)
    where
      to : Objects (book_of marks objectors targets) y x → (y < length marks) × ((k : ℕ) × Entry y x k)
      to (l, o) =
          let (k, h, t) = any_at (length objectors) (entry y x) o in
          let (a, b) = both (eqb (get_or objectors k 0) y) (eqb (get_or targets k 0) x) t in
          (l, (k, (h, eqb→eq (get_or objectors k 0) y a, eqb→eq (get_or targets k 0) x b)))

      same : (a b : ℕ) → a ≡ b → T (eqb a b)
      same a b e = subst (λ c. T (eqb a c)) e (eqb_refl a)

      from : (y < length marks) × ((k : ℕ) × Entry y x k) → Objects (book_of marks objectors targets) y x
      from (l, (k, (h, a, b))) = (
        l,
        any_of (length objectors) (entry y x) k h (and_of (eqb (get_or objectors k 0) y) (eqb (get_or targets k 0) x)
            (same (get_or objectors k 0) y a) (same (get_or targets k 0) x b)),
      )

  -- each entry of lists in order is an objection, of which something is told
  pub entry_told : InOrder marks objectors targets → (k : ℕ) → k < length objectors → (a : Account)
      × OfObjection (book_of marks objectors targets) (get_or objectors k 0) (get_or targets k 0) a
  unfolding book_of
  entry_told order k h =
      objection_told_lem (book_of marks objectors targets) (get_or objectors k 0) (get_or targets k 0) (order.target k h)
      ((objects_entry (get_or objectors k 0) (get_or targets k 0)).1 (order.objector k h, (k, (h, refl, refl))))
