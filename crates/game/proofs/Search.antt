-- Tests and bounded searches, read as facts.
use mathlib.Core.Bool.{Bool, not, true, false, ◌&&◌, ◌||◌}
use mathlib.Core.Logic.{inl, inr, ◌⊎◌}
use mathlib.Core.Path.{refl, subst, sym, ◌≡◌}
use Prim.Native.Nat.{ℕ, suc, zero, ◌≤◌, ◌<◌}
use native.Mathlib.Nat.{not-suc-le-zero}
use native.Mathlib.Decide.{ℕ_discrete, dec_le}
use native.Mathlib.Omega.{arith}
use lib.Dec.{T}
use Rattle.game.specs.Book.{any, all}
use Rattle.game.specs.Label.{Least}

-- a test passes or fails
pub decide : (b : Bool) → T b ⊎ T (not b)
decide true = inl tt
decide false = inr tt

pub clash : (b : Bool) → T b → T (not b) → ⊥
clash true p q = q
clash false p q = p

pub refute : (b : Bool) → (T b → ⊥) → T (not b)
refute true f = f tt
refute false f = tt

pub as_true : (b : Bool) → T b → b ≡ true
as_true true p = refl
as_true false p = absurd p

pub as_false : (b : Bool) → T (not b) → b ≡ false
as_false true p = absurd p
as_false false p = refl

pub and_of : (a b : Bool) → T a → T b → T (a && b)
and_of true b p q = q
and_of false b p q = p

pub and_left : (a b : Bool) → T (a && b) → T a
and_left true b p = tt
and_left false b p = p

pub and_right : (a b : Bool) → T (a && b) → T b
and_right true b p = p
and_right false b p = absurd p

-- two tests that pass alike are one
pub same_test : (a b : Bool) → (T a → T b) → (T b → T a) → a ≡ b
same_test true true f g = refl
same_test true false f g = absurd (f tt)
same_test false true f g = absurd (g tt)
same_test false false f g = refl

pub both : (a b : Bool) → T (a && b) → T a × T b
both a b t = (and_left a b t, and_right a b t)

pub or_left : (a b : Bool) → T a → T (a || b)
or_left true b p = tt
or_left false b p = absurd p

pub or_right : (a b : Bool) → T b → T (a || b)
or_right true b p = tt
or_right false b p = p

pub or_cases : (a b : Bool) → T (a || b) → T a ⊎ T b
or_cases true b p = inl tt
or_cases false b p = inr p

-- `not a || b` is: a only if b
pub only_if : (a b : Bool) → T (not a || b) → T a → T b
only_if true b p q = p
only_if false b p q = absurd q

pub only_if_of : (a b : Bool) → (T a → T b) → T (not a || b)
only_if_of true b f = f tt
only_if_of false b f = tt

pub not_only_if : (a b : Bool) → T (not (not a || b)) → T a × T (not b)
not_only_if true b p = (tt, p)
not_only_if false b p = absurd p

-- below suc n: n itself, or below n
pub below_suc : {y n : ℕ} → y < suc n → (y ≡ n) ⊎ (y < n)
below_suc {y} {n} h = go (ℕ_discrete y n)
  where
    go : Dec (y ≡ n) → (y ≡ n) ⊎ (y < n)
    go (yes e) = inl e
    go (no ne) = inr (omega arith)

pub any_of : (n : ℕ) (p : ℕ → Bool) (y : ℕ) → y < n → T (p y) → T (any n p)
unfolding any
any_of zero p y h t = absurd (not-suc-le-zero h)
any_of (suc n) p y h t = go (p n) (below_suc h) (λ e. subst (λ z. T (p z)) e t) (λ l. any_of n p y l t)
  where
    go : (b : Bool) → (y ≡ n) ⊎ (y < n) → (y ≡ n → T b) → (y < n → T (any n p)) → T (b || any n p)
    go true d f g = tt
    go false (inl e) f g = absurd (f e)
    go false (inr l) f g = g l

pub any_at : (n : ℕ) (p : ℕ → Bool) → T (any n p) → (y : ℕ) × (y < n) × T (p y)
unfolding any
any_at zero p t = absurd t
any_at (suc n) p t = go (p n) refl t (any_at n p)
  where
    go : (b : Bool) → p n ≡ b → T (b || any n p) → (T (any n p) → (y : ℕ) × (y < n) × T (p y)) → (y : ℕ) × (y < suc n) × T (p y)
    go true e u f = (n, omega arith, subst T (sym e) tt)
    go false e u f = let w = f u in (w.0, omega (arith, w.1), w.2)

pub all_of : (n : ℕ) (p : ℕ → Bool) → ((y : ℕ) → y < n → T (p y)) → T (all n p)
unfolding all
all_of zero p f = tt
all_of (suc n) p f = and_of (p n) (all n p) (f n (omega arith)) (all_of n p (λ y h. f y (omega arith)))

pub all_at : (n : ℕ) (p : ℕ → Bool) → T (all n p) → (y : ℕ) → y < n → T (p y)
unfolding all
all_at zero p t y h = absurd (not-suc-le-zero h)
all_at (suc n) p t y h = go (below_suc h) (λ l. all_at n p (and_right (p n) (all n p) t) y l)
  where
    go : (y ≡ n) ⊎ (y < n) → (y < n → T (p y)) → T (p y)
    go (inl e) f = subst (λ z. T (p z)) (sym e) (and_left (p n) (all n p) t)
    go (inr l) f = f l

-- where not all pass, one fails
pub not_all : (n : ℕ) (p : ℕ → Bool) → T (not (all n p)) → (y : ℕ) × (y < n) × T (not (p y))
unfolding all
not_all zero p t = absurd t
not_all (suc n) p t = go (p n) refl t (not_all n p)
  where
    go : (b : Bool) → p n ≡ b → T (not (b && all n p)) → (T (not (all n p)) → (y : ℕ) × (y < n) × T (not (p y))) → (y : ℕ)
        × (y < suc n) × T (not (p y))
    go true e u f = let w = f u in (w.0, omega (arith, w.1), w.2)
    go false e u f = (n, omega arith, subst (λ b. T (not b)) (sym e) tt)

-- the least number that passes a test that some number passes
least_below : (p : ℕ → Bool) (n : ℕ) → ((k : ℕ) × (k < n) × Least (λ m. T (p m)) k) ⊎ ((m : ℕ) → m < n → T (not (p m)))
least_below p zero = inr (λ m h. absurd (not-suc-le-zero h))
least_below p (suc n) = go (least_below p n) (decide (p n))
  where
    bound : ((m : ℕ) → m < n → T (not (p m))) → (m : ℕ) → T (p m) → Dec (n ≤ m) → n ≤ m
    bound f m u (yes h) = h
    bound f m u (no g) = absurd (clash (p m) u (f m (omega arith)))

    miss : ((m : ℕ) → m < n → T (not (p m))) → T (not (p n)) → (m : ℕ) → (m ≡ n) ⊎ (m < n) → T (not (p m))
    miss f w m (inl e) = subst (λ z. T (not (p z))) (sym e) w
    miss f w m (inr l) = f m l

    go : ((k : ℕ) × (k < n) × Least (λ m. T (p m)) k) ⊎ ((m : ℕ) → m < n → T (not (p m))) → T (p n) ⊎ T (not (p n))
        → ((k : ℕ) × (k < suc n) × Least (λ m. T (p m)) k) ⊎ ((m : ℕ) → m < suc n → T (not (p m)))
    go (inl (k, h, l)) d = inl (k, omega arith, l)
    go (inr f) (inl t) = inl (n, omega arith, (t, λ m u. bound f m u (dec_le n m)))
    go (inr f) (inr w) = inr (λ m h. miss f w m (below_suc h))

pub least : (p : ℕ → Bool) (n : ℕ) → T (p n) → (k : ℕ) × (k ≤ n) × Least (λ m. T (p m)) k
least p n t = go (least_below p (suc n))
  where
    go : ((k : ℕ) × (k < suc n) × Least (λ m. T (p m)) k) ⊎ ((m : ℕ) → m < suc n → T (not (p m))) → (k : ℕ) × (k ≤ n)
        × Least (λ m. T (p m)) k
    go (inl (k, h, l)) = (k, omega arith, l)
    go (inr f) = absurd (clash (p n) t (f n (omega arith)))

-- a decision as a test
unfoldable pub is_yes : {A : Type 0} → Dec A → Bool
is_yes (yes a) = true
is_yes (no f) = false

pub from_yes : {A : Type 0} (d : Dec A) → T (is_yes d) → A
unfolding is_yes
from_yes (yes a) t = a
from_yes (no f) t = absurd t

pub to_yes : {A : Type 0} (d : Dec A) → A → T (is_yes d)
unfolding is_yes
to_yes (yes a) b = tt
to_yes (no f) b = absurd (f b)

-- and as one or the other
pub either? : {A : Type 0} → Dec A → A ⊎ (¬ A)
either? (yes p) = inl p
either? (no p) = inr p
