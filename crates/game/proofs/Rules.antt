-- The rules' clauses read as facts; more turns never hurt; nothing both falls and stands.
use mathlib.Core.Bool.{Bool, not, ◌&&◌, ◌||◌}
use mathlib.Core.Logic.{inl, inr, ◌⊎◌}
use Prim.Native.Nat.{ℕ, suc, zero, max, ◌≤◌}
use native.Mathlib.Decide.{le_ind}
use native.Mathlib.Omega.{arith}
use lib.Dec.{T}
use Rattle.game.specs.Book.{Book, Objects, Read, all, Objected, any}
use Rattle.game.specs.Rules.{falls_within, stands_within}
use Rattle.game.proofs.Search.{any_of, and_of, any_at, both, all_of, only_if_of, only_if, all_at, and_right, refute, clash}
use Rattle.game.proofs.Search.{and_left, decide, not_all, not_only_if}

abbrev pub FallsWithin : Book → ℕ → ℕ → Type 0
FallsWithin B n x = T (falls_within B n x)

abbrev pub StandsWithin : Book → ℕ → ℕ → Type 0
StandsWithin B n x = T (stands_within B n x)

module _ (B : Book) where
  -- the tests that the rules make at an objector y of x
  abbrev fells : ℕ → ℕ → ℕ → Bool
  fells n x y = B.objects y x && stands_within B n y

  abbrev answered : ℕ → ℕ → ℕ → Bool
  answered n x y = not (B.objects y x) || falls_within B n y

  abbrev silent : ℕ → ℕ → Bool
  silent x y = not (B.objects y x)

  pub falls_zero : (x : ℕ) → FallsWithin B 0 x → ⊥
  unfolding falls_within
  falls_zero x t = t

  pub falls_by : (n x y : ℕ) → Objects B y x → StandsWithin B n y → FallsWithin B (suc n) x
  unfolding falls_within
  falls_by n x y o s = any_of B.size (fells n x) y o.0 (and_of (B.objects y x) (stands_within B n y) o.1 s)

  pub falls_at : (n x : ℕ) → FallsWithin B (suc n) x → (y : ℕ) × Objects B y x × StandsWithin B n y
  unfolding falls_within
  falls_at n x t =
      let (y, h, u) = any_at B.size (fells n x) t in
      let (o, s) = both (B.objects y x) (stands_within B n y) u in
      (y, (h, o), s)

  pub stands_by : (n x : ℕ) → Read B x → ((y : ℕ) → Objects B y x → FallsWithin B n y) → StandsWithin B (suc n) x
  unfolding falls_within
  stands_by n x r f =
      and_of (not (B.unread x)) (all B.size (answered n x)) r
      (all_of B.size (answered n x) (λ y h. only_if_of (B.objects y x) (falls_within B n y) (λ o. f y (h, o))))

  pub stands_at : (n x : ℕ) → StandsWithin B (suc n) x → (y : ℕ) → Objects B y x → FallsWithin B n y
  unfolding falls_within
  stands_at n x t y o =
      only_if (B.objects y x) (falls_within B n y)
      (all_at B.size (answered n x) (and_right (not (B.unread x)) (all B.size (answered n x)) t) y o.0) o.1

  pub stands_zero_by : (x : ℕ) → Read B x → ¬ Objected B x → StandsWithin B 0 x
  unfolding falls_within
  stands_zero_by x r f =
      and_of (not (B.unread x)) (all B.size (silent x)) r
      (all_of B.size (silent x) (λ y h. refute (B.objects y x) (λ o. f (y, (h, o)))))

  pub stands_zero_at : (x : ℕ) → StandsWithin B 0 x → ¬ Objected B x
  unfolding falls_within
  stands_zero_at x t (y, (h, o)) =
      clash (B.objects y x) o (all_at B.size (silent x) (and_right (not (B.unread x)) (all B.size (silent x)) t) y h)

  pub stands_read : (n x : ℕ) → StandsWithin B n x → Read B x
  unfolding falls_within
  stands_read zero x t = and_left (not (B.unread x)) (all B.size (silent x)) t
  stands_read (suc n) x t = and_left (not (B.unread x)) (all B.size (answered n x)) t

  -- a statement has an objection or none
  pub objected? : (x : ℕ) → Objected B x ⊎ (¬ Objected B x)
  objected? x = go (decide (any B.size (λ y. B.objects y x)))
    where
      go : T (any B.size (λ y. B.objects y x)) ⊎ T (not (any B.size (λ y. B.objects y x))) → Objected B x
          ⊎ (¬ Objected B x)
      go (inl t) = let (y, h, o) = any_at B.size (λ y. B.objects y x) t in inl (y, (h, o))
      go (inr f) =
          inr (λ w. clash (any B.size (λ y. B.objects y x)) (any_of B.size (λ y. B.objects y x) w.0 w.1.0
          w.1.1) f)

  -- a read statement that does not stand within n + 1 turns has an objector that does not fall within n
  pub unanswered : (n x : ℕ) → Read B x → (StandsWithin B (suc n) x → ⊥) → (y : ℕ) × Objects B y x × T (not (falls_within B n y))
  unfolding falls_within
  unanswered n x r f =
      let (y, h, u) = not_all B.size (answered n x) (refute (all B.size (answered n x))
      (λ t. f (and_of (not (B.unread x)) (all B.size (answered n x)) r t))) in
      let (o, g) = not_only_if (B.objects y x) (falls_within B n y) u in
      (y, (h, o), g)

  -- more turns never hurt
  mutual
    falls_more : (n : ℕ) (x : ℕ) → FallsWithin B n x → FallsWithin B (suc n) x
    falls_more zero x t = absurd (falls_zero x t)
    falls_more (suc n) x t = let (y, o, s) = falls_at n x t in falls_by (suc n) x y o (stands_more n y s)

    stands_more : (n : ℕ) (x : ℕ) → StandsWithin B n x → StandsWithin B (suc n) x
    stands_more zero x t = stands_by 0 x (stands_read 0 x t) (λ y o. absurd (stands_zero_at x t (y, o)))
    stands_more (suc n) x t = stands_by (suc n) x (stands_read (suc n) x t) (λ y o. falls_more n y (stands_at n x t y o))

  pub falls_mono : (n m x : ℕ) → n ≤ m → FallsWithin B n x → FallsWithin B m x
  falls_mono n m x h t = le_ind (λ k. FallsWithin B k x) t (λ k l u. falls_more k x u) m h

  pub stands_mono : (n m x : ℕ) → n ≤ m → StandsWithin B n x → StandsWithin B m x
  stands_mono n m x h t = le_ind (λ k. StandsWithin B k x) t (λ k l u. stands_more k x u) m h

  -- nothing both falls and stands
  not_both : (n x : ℕ) → FallsWithin B n x → StandsWithin B n x → ⊥
  not_both zero x f s = falls_zero x f
  not_both (suc n) x f s = let (y, o, t) = falls_at n x f in not_both n y (stands_at n x s y o) t

  pub exclusive : (n m x : ℕ) → FallsWithin B n x → StandsWithin B m x → ⊥
  exclusive n m x f s =
      not_both (max n m) x (falls_mono n (max n m) x (omega arith) f) (stands_mono m (max n m) x (omega arith) s)
