-- The two questions read along the entries that object to a statement, as a walk finds them.
use mathlib.Core.Bool.{Bool, true, false}
use mathlib.Core.List.{List}
use mathlib.Core.Path.{sym, subst, refl, ◌≡◌}
use Prim.Native.Nat.{ℕ, suc, ◌-◌, ◌<◌}
use native.Mathlib.Decide.{ℕ_discrete}
use native.Mathlib.Omega.{arith}
use lib.Dec.{T, eqb, eqb→eq}
use lib.ListN.{get_or, length}
use Rattle.game.specs.Book.{Book, book_of, Objects, Read}
use Rattle.game.specs.Rules.{stands_within, falls_within}
use Rattle.game.proofs.HandedBook.{objects_entry}
use Rattle.game.proofs.Rules.{falls_zero, falls_by, stands_zero_at, stands_at, falls_at, stands_read, stands_zero_by, stands_by}
use Rattle.game.proofs.Search.{as_true, as_false, refute, clash}
use Rattle.lists.specs.Handed.{Handed}

yes_of : (b : Bool) → T b → true ≡ b
yes_of b t = sym (as_true b t)

no_of : (b : Bool) → (T b → ⊥) → false ≡ b
no_of b f = sym (as_false b (refute b f))

passes : {b : Bool} → b ≡ true → T b
passes e = subst T (sym e) tt

fails : {b : Bool} → b ≡ false → T b → ⊥
fails e = subst T e

ahead : (turns : ℕ) → (turns ≡ 0 → ⊥) → suc (turns - 1) ≡ turns
ahead turns n = omega arith

module _ (marks objectors targets : List ℕ) where
  abbrev B : Book
  B = book_of marks objectors targets

  -- what a walk has found of the objector of the entry e, where so many turns were asked: it does not stand with one turn
  -- less; there is a turn left, and with one turn less it falls
  abbrev pub Weak : ℕ → ℕ → Type 0
  Weak turns e = stands_within B (turns - 1) (get_or objectors e 0) ≡ false

  abbrev pub Beaten : ℕ → ℕ → Type 0
  Beaten turns e = (turns ≡ 0 → ⊥) × (falls_within B (turns - 1) (get_or objectors e 0) ≡ true)

  pub falls_none : (turns x : ℕ) → turns ≡ 0 → false ≡ falls_within B turns x
  falls_none turns x z = rw z (no_of (falls_within B 0 x) (falls_zero B x))

  module _ (h : Handed marks objectors targets) where
    -- an entry of x names an objector of it
    named : (x e : ℕ) → e < length targets → get_or targets e 0 ≡ x → Objects B (get_or objectors e 0) x
    named x e l o =
        let k : e < length objectors = omega (arith, h.order.paired) in
        (objects_entry marks objectors targets (get_or objectors e 0) x).1 (h.order.objector e k, (e, (k, refl, o)))

    -- what holds of the objector of each entry of x holds of each objector of it
    each : (P : ℕ → Type 0) (x : ℕ) → ((e : ℕ) → e < length targets → get_or targets e 0 ≡ x → P (get_or objectors e 0)) → (y : ℕ)
        → Objects B y x → P y
    each P x f y o =
        let (l, (e, (k, a, b))) = (objects_entry marks objectors targets y x).0 o in
        subst P a (f e (omega (arith, h.order.paired)) b)

    module _ (x e : ℕ) (l : e < length targets) (o : get_or targets e 0 ≡ x) where
      pub falls_some : (turns : ℕ) → (turns ≡ 0 → ⊥) → stands_within B (turns - 1) (get_or objectors e 0) ≡ true
          → true ≡ falls_within B turns x
      falls_some turns n s =
          subst (λ t. true ≡ falls_within B t x) (ahead turns n)
          (yes_of (falls_within B (suc (turns - 1)) x) (falls_by B (turns - 1) x (get_or objectors e 0) (named x e l o)
          (passes s)))

      -- an objection has been made and no turn is left
      pub stands_late : (turns : ℕ) → turns ≡ 0 → false ≡ stands_within B turns x
      stands_late turns z = rw z (no_of (stands_within B 0 x) (λ s. stands_zero_at B x s (get_or objectors e 0, named x e l o)))

      pub stands_not : (turns : ℕ) → (turns ≡ 0 → ⊥) → falls_within B (turns - 1) (get_or objectors e 0) ≡ false
          → false ≡ stands_within B turns x
      stands_not turns n f =
          subst (λ t. false ≡ stands_within B t x) (ahead turns n)
          (no_of (stands_within B (suc (turns - 1)) x) (λ s. fails f
          (stands_at B (turns - 1) x s (get_or objectors e 0) (named x e l o))))

    pub falls_not : (x turns : ℕ) → (turns ≡ 0 → ⊥) → ((e : ℕ) → e < length targets → get_or targets e 0 ≡ x → Weak turns e)
        → false ≡ falls_within B turns x
    falls_not x turns n f =
        subst (λ t. false ≡ falls_within B t x) (ahead turns n)
        (no_of (falls_within B (suc (turns - 1)) x) (λ t. let (y, o, s) = falls_at B (turns - 1) x t in
        fails (each (λ z. stands_within B (turns - 1) z ≡ false) x f y o) s))

    pub stands_unread : (x turns : ℕ) → x < length marks → (get_or marks x 0 ≡ 0 → ⊥) → false ≡ stands_within B turns x
    unfolding book_of
    stands_unread x turns l n =
        let one : get_or marks x 0 ≡ 1 = omega (arith, h.order.marked x l) in
        no_of (stands_within B turns x) (λ s. clash (eqb (get_or marks x 0) 1) (rw one tt) (stands_read B turns x s))

    read : (x : ℕ) → get_or marks x 0 ≡ 0 → Read B x
    unfolding book_of
    read x z = refute (eqb (get_or marks x 0) 1) (λ u. omega (arith, eqb→eq (get_or marks x 0) 1 u))

    pub stands_all : (x turns : ℕ) → get_or marks x 0 ≡ 0 → ((e : ℕ) → e < length targets → get_or targets e 0 ≡ x → Beaten turns
        e)
        → true ≡ stands_within B turns x
    stands_all x turns z f = go (ℕ_discrete turns 0)
      where
        go : Dec (turns ≡ 0) → true ≡ stands_within B turns x
        go (yes n) =
            rw n (yes_of (stands_within B 0 x) (stands_zero_by B x (read x z)
            (λ w. each (λ y. ⊥) x (λ e l o. (f e l o).0 n) w.0 w.1)))
        go (no n) =
            subst (λ t. true ≡ stands_within B t x) (ahead turns n)
            (yes_of (stands_within B (suc (turns - 1)) x) (stands_by B (turns - 1) x (read x z)
            (λ y o. passes (each (λ v. falls_within B (turns - 1) v ≡ true) x (λ e l o. (f e l o).1) y o))))
