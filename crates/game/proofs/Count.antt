-- How many places below n pass a test: the pigeonhole of the bound on lengths.
use mathlib.Core.Bool.{Bool, cond, true, false, not}
use mathlib.Core.Logic.{inl, inr, ◌⊎◌}
use mathlib.Core.Path.{subst, ◌≡◌}
use Prim.Native.Nat.{ℕ, zero, suc, ◌≤◌, ◌<◌}
use native.Mathlib.Nat.{not-suc-le-zero}
use native.Mathlib.Omega.{arith}
use lib.Dec.{T}
use Rattle.game.specs.Book.{count}
use Rattle.game.proofs.Search.{below_suc}

pub count_le : (n : ℕ) (p : ℕ → Bool) → count n p ≤ n
unfolding count
count_le zero p = omega arith
count_le (suc n) p = go (p n) (count_le n p)
  where
    go : (b : Bool) → count n p ≤ n → cond b (suc (count n p)) (count n p) ≤ suc n
    go true h = omega arith
    go false h = omega arith

module _ (p q : ℕ → Bool) where
  pub count_mono : (n : ℕ) → ((y : ℕ) → y < n → T (p y) → T (q y)) → count n p ≤ count n q
  unfolding count
  count_mono zero f = omega arith
  count_mono (suc n) f = go (p n) (q n) (f n (omega arith)) (count_mono n (λ y h. f y (omega arith)))
    where
      go : (a b : Bool) → (T a → T b) → count n p ≤ count n q → cond a (suc (count n p)) (count n p) ≤ cond b (suc (count n q))
          (count n q)
      go true true g h = omega arith
      go true false g h = absurd (g tt)
      go false true g h = omega arith
      go false false g h = omega arith

  pub count_strict : (n x : ℕ) → ((y : ℕ) → y < n → T (p y) → T (q y)) → x < n → T (not (p x)) → T (q x) → count n p < count n q
  unfolding count
  count_strict zero x f h s t = absurd (not-suc-le-zero h)
  count_strict (suc n) x f h s t = pick (below_suc h) (λ l. count_strict n x (λ y k. f y (omega arith)) l s t)
    where
      here : (a b : Bool) → T (not a) → T b → count n p ≤ count n q
          → cond a (suc (count n p)) (count n p) < cond b (suc (count n q)) (count n q)
      here true b s t l = absurd s
      here false true s t l = omega arith
      here false false s t l = absurd t

      there : (a b : Bool) → (T a → T b) → count n p < count n q
          → cond a (suc (count n p)) (count n p) < cond b (suc (count n q)) (count n q)
      there true true g l = omega arith
      there true false g l = absurd (g tt)
      there false true g l = omega arith
      there false false g l = omega arith

      pick : (x ≡ n) ⊎ (x < n) → (x < n → count n p < count n q)
          → cond (p n) (suc (count n p)) (count n p) < cond (q n) (suc (count n q)) (count n q)
      pick (inl e) below =
          here (p n) (q n) (subst (λ z. T (not (p z))) e s) (subst (λ z. T (q z)) e t) (count_mono n (λ y l. f y (omega arith)))
      pick (inr l) below = there (p n) (q n) (f n (omega arith)) (below l)
