-- A list of what a function says of 0, 1, .. n - 1.
use mathlib.Core.List.{List, [], ◌∷◌}
use mathlib.Core.Path.{refl, ap, ◌≡◌}
use Prim.Native.Nat.{ℕ, zero, suc, ◌<◌}
use native.Mathlib.Nat.{not-suc-le-zero}
use native.Mathlib.Omega.{arith}
use lib.ListN.{length, get_or}

-- A list of what a function says of 0, 1, .. n - 1.
module _ {A : Type 0} where
  abbrev pub up_to : ℕ → (ℕ → A) → List A
  up_to zero f = []
  up_to (suc n) f = f 0 ∷ up_to n (λ i. f (suc i))

  pub length_up_to : (n : ℕ) (f : ℕ → A) → length (up_to n f) ≡ n
  length_up_to zero f = refl
  length_up_to (suc n) f = ap suc (length_up_to n (λ i. f (suc i)))

  pub get_or_up_to : (n : ℕ) (f : ℕ → A) (d : A) (i : ℕ) → i < n → get_or (up_to n f) i d ≡ f i
  get_or_up_to zero f d i h = absurd (not-suc-le-zero h)
  get_or_up_to (suc n) f d zero h = refl
  get_or_up_to (suc n) f d (suc i) h = get_or_up_to n (λ j. f (suc j)) d i (omega arith)

  -- where there is something for each place below n, there is a list of it
  pub chosen : (d : A) (P : ℕ → A → Type 0) (n : ℕ) → ((k : ℕ) → k < n → (a : A) × P k a)
      → (l : List A) × (length l ≡ n) × ((k : ℕ) → k < n → P k (get_or l k d))
  chosen d P zero f = ([], refl, λ k h. absurd (not-suc-le-zero h))
  chosen d P (suc n) f = go (f 0 (omega arith)) (chosen d (λ k. P (suc k)) n (λ k h. f (suc k) (omega arith)))
    where
      at : (a : A) (l : List A) → P 0 a → ((k : ℕ) → k < n → P (suc k) (get_or l k d)) → (k : ℕ) → k < suc n
          → P k (get_or (a ∷ l) k d)
      at a l p q zero h = p
      at a l p q (suc k) h = q k (omega arith)

      go : (a : A) × P 0 a → (l : List A) × (length l ≡ n) × ((k : ℕ) → k < n → P (suc k) (get_or l k d))
          → (l : List A) × (length l ≡ suc n) × ((k : ℕ) → k < suc n → P k (get_or l k d))
      go (a, p) (l, e, q) = (a ∷ l, ap suc e, at a l p q)
