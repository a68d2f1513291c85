-- Laws of the entries of a list that pass a test. Each kept entry has its place in the whole list, and these places rise: so
-- nothing is kept twice, nothing changes its order, and whatever passes the test is kept.
use mathlib.Core.Bool.{Bool, cond, true, false}
use mathlib.Core.List.{List, map, [], ◌∷◌}
use mathlib.Core.Logic.{◌↔◌}
use mathlib.Core.Path.{refl, ap, subst, sym, ◌≡◌, ◌∙◌}
use Prim.Native.Nat.{ℕ, suc, zero, ◌≤◌, ◌<◌}
use native.Mathlib.Nat.{le_of_suc-le-suc, not-suc-le-zero}
use native.Mathlib.Decide.{dec_lt}
use native.Mathlib.Omega.{arith}
use lib.Dec.{T}
use lib.ListN.{length, get_or}
use Rattle.game.proofs.Search.{same_test}
use Rattle.reason.specs.Alone.{keep}

-- by tests that agree
pub keep_same : {A : Type 0} (p q : ℕ → Bool) (l : List A) → ((k : ℕ) → k < length l → p k ≡ q k) → keep p l ≡ keep q l
unfolding keep
keep_same p q [] h = refl
keep_same p q (a ∷ l) h =
    ap (λ b. cond b (a ∷ keep (λ k. p (suc k)) l) (keep (λ k. p (suc k)) l)) (h 0 (omega arith))
    ∙ ap (λ u. cond (q 0) (a ∷ u) u) (keep_same (λ k. p (suc k)) (λ k. q (suc k)) l (λ k i. h (suc k) (omega arith)))

-- tests that are passed by the same entries agree
pub tests_same : (P : ℕ → Type 0) (n : ℕ) (p q : ℕ → Bool) → ((k : ℕ) → k < n → T (p k) ↔ P k)
    → ((k : ℕ) → k < n → T (q k) ↔ P k) → (k : ℕ) → k < n → p k ≡ q k
tests_same P n p q a b k h = same_test (p k) (q k) (λ t. (b k h).1 ((a k h).0 t)) (λ t. (a k h).1 ((b k h).0 t))

-- k has the entries of l that pass the test, in order: its entry i is the one of l at `place i`
pub record Kept {A : Type 0} (p : ℕ → Bool) (l k : List A) (place : ℕ → ℕ) : Type 0 where
  pub shorter : length k ≤ length l
  pub listed : (i : ℕ) → i < length k → place i < length l
  pub passes : (i : ℕ) → i < length k → T (p (place i))
  pub rises : (i j : ℕ) → i < j → j < length k → place i < place j
  pub every : (j : ℕ) → j < length l → T (p j) → (i : ℕ) × (i < length k) × (place i ≡ j)
  pub entry : (g : A → ℕ) (i : ℕ) → i < length k → get_or (map g k) i 0 ≡ get_or (map g l) (place i) 0

-- the places, where the first entry is kept too
first : (ℕ → ℕ) → ℕ → ℕ
first place zero = zero
first place (suc i) = suc (place i)

module _ {A : Type 0} (p : ℕ → Bool) (a : A) (l k : List A) (place : ℕ → ℕ) (kept : Kept (λ i. p (suc i)) l k place) where
  with_first : T (p 0) → Kept p (a ∷ l) (a ∷ k) (first place)
  unfolding first
  with_first t = record {
    shorter = omega (arith, kept.shorter);
    listed = listed;
    passes = passes;
    rises = rises;
    every = every;
    entry = entry;
  }
    where
      listed : (i : ℕ) → i < length (a ∷ k) → first place i < length (a ∷ l)
      listed zero h = omega arith
      listed (suc i) h = omega (arith, kept.listed i (le_of_suc-le-suc h))

      passes : (i : ℕ) → i < length (a ∷ k) → T (p (first place i))
      passes zero h = t
      passes (suc i) h = kept.passes i (le_of_suc-le-suc h)

      rises : (i j : ℕ) → i < j → j < length (a ∷ k) → first place i < first place j
      rises i zero h n = absurd (not-suc-le-zero h)
      rises zero (suc j) h n = omega arith
      rises (suc i) (suc j) h n = omega (arith, kept.rises i j (le_of_suc-le-suc h) (le_of_suc-le-suc n))

      every : (j : ℕ) → j < length (a ∷ l) → T (p j) → (i : ℕ) × (i < length (a ∷ k)) × (first place i ≡ j)
      every zero h u = (0, omega arith, refl)
      every (suc j) h u = let (i, n, e) = kept.every j (le_of_suc-le-suc h) u in (suc i, omega arith, ap suc e)

      entry : (g : A → ℕ) (i : ℕ) → i < length (a ∷ k) → get_or (map g (a ∷ k)) i 0 ≡ get_or (map g (a ∷ l)) (first place i) 0
      entry g zero h = refl
      entry g (suc i) h = kept.entry g i (le_of_suc-le-suc h)

  without_first : (T (p 0) → ⊥) → Kept p (a ∷ l) k (λ i. suc (place i))
  without_first f = record {
    shorter = omega (arith, kept.shorter);
    listed = λ i h. omega (arith, kept.listed i h);
    passes = kept.passes;
    rises = λ i j h n. omega (arith, kept.rises i j h n);
    every = every;
    entry = kept.entry;
  }
    where
      every : (j : ℕ) → j < length (a ∷ l) → T (p j) → (i : ℕ) × (i < length k) × (suc (place i) ≡ j)
      every zero h u = absurd (f u)
      every (suc j) h u = let (i, n, e) = kept.every j (le_of_suc-le-suc h) u in (i, n, ap suc e)

-- what is kept has its places
pub keep_kept : {A : Type 0} (p : ℕ → Bool) (l : List A) → (place : ℕ → ℕ) × Kept p l (keep p l) place
unfolding keep
keep_kept p [] = (
  λ i. i,
  record {
    shorter = omega arith;
    listed = λ i h. h;
    passes = λ i h. absurd (not-suc-le-zero h);
    rises = λ i j h n. h;
    every = λ j h t. absurd (not-suc-le-zero h);
    entry = λ g i h. refl;
  },
)
keep_kept p (a ∷ l) = go (p 0) refl (keep_kept (λ k. p (suc k)) l)
  where
    go : (b : Bool) → p 0 ≡ b → (place : ℕ → ℕ) × Kept (λ k. p (suc k)) l (keep (λ k. p (suc k)) l) place
        → (place : ℕ → ℕ) × Kept p (a ∷ l) (cond b (a ∷ keep (λ k. p (suc k)) l) (keep (λ k. p (suc k)) l)) place
    go true e (place, kept) = (first place, with_first p a l _ place kept (subst T (sym e) tt))
    go false e (place, kept) = (λ i. suc (place i), without_first p a l _ place kept (subst T e))

-- no place is kept twice
pub kept_once : {A : Type 0} (p : ℕ → Bool) (l k : List A) (place : ℕ → ℕ) → Kept p l k place → (i j : ℕ) → i < length k
    → j < length k → place i ≡ place j → i ≡ j
kept_once p l k place kept i j h n e = go (dec_lt i j) (dec_lt j i)
  where
    go : Dec (i < j) → Dec (j < i) → i ≡ j
    go (yes u) d = absurd (omega (arith, kept.rises i j u n))
    go (no u) (yes v) = absurd (omega (arith, kept.rises j i v h))
    go (no u) (no v) = omega arith
