-- Laws of questions and searches: what was answered; a search goes on by one, ends here or ends with none; and the first of what
-- can be decided is one.
use mathlib.Core.Bool.{Bool, not, true, false}
use mathlib.Core.Logic.{inr, inl, ◌⊎◌}
use mathlib.Core.Path.{◌≡◌}
use Prim.Native.Nat.{ℕ, zero, suc, ◌+◌, ◌≤◌, ◌<◌}
use native.Mathlib.Nat.{not-suc-le-zero}
use native.Mathlib.Decide.{ℕ_discrete, dec_lt}
use native.Mathlib.Omega.{arith}
use Rattle.game.specs.Find.{First}
use Rattle.game.specs.Questions.{Decides, Found}

-- what a question was answered, where the answer was tried by its contrary
pub denied : {P : Type 0} (b : Bool) → not b ≡ true → Decides P b → ¬ P
denied true e d = let z : ◌≡◌ {A = ℕ} 0 1 = cc in absurd (omega arith)
denied false e d = d

pub granted : {P : Type 0} (b : Bool) → not b ≡ false → Decides P b → P
granted true e d = d
granted false e d = let z : ◌≡◌ {A = ℕ} 0 1 = cc in absurd (omega arith)

-- A search goes on by one, ends with none, or ends here.
module _ (P : ℕ → Type 0) where
  pub further : (k : ℕ) → ((j : ℕ) → j < k → ¬ P j) → ¬ P k → (j : ℕ) → j < k + 1 → ¬ P j
  further k f n j h = go (ℕ_discrete j k)
    where
      go : Dec (j ≡ k) → ¬ P j
      go (yes e) = rw e n
      go (no d) = f j (omega arith)

  pub found_none : (n k : ℕ) → ((j : ℕ) → j < k → ¬ P j) → k ≡ n → Found P n k
  found_none n k f e = (omega arith, f, λ h. absurd (omega arith))

  pub found_here : (n k : ℕ) → k < n → ((j : ℕ) → j < k → ¬ P j) → P k → Found P n k
  found_here n k h f p = (omega arith, f, λ _. p)

  -- what a search that is over has found
  pub found_first : (n r : ℕ) → Found P n r → r < n → First P r
  found_first n r f h = (f.2 h, f.1)

  pub found_clear : (n r : ℕ) → ((j : ℕ) → P j → j < n) → Found P n r → n ≤ r → (j : ℕ) → ¬ P j
  found_clear n r bound f h j p = f.1 j (omega (arith, bound j p)) p

  -- the first of those that have a fault, where that can be decided and lies below n
  pub first_below : ((k : ℕ) → Dec (P k)) → (n : ℕ) → ((k : ℕ) × First P k) ⊎ ((k : ℕ) → k < n → ¬ P k)
  first_below d zero = inr (λ k h. absurd (not-suc-le-zero h))
  first_below d (suc n) = go (first_below d n) (d n)
    where
      go : ((k : ℕ) × First P k) ⊎ ((k : ℕ) → k < n → ¬ P k) → Dec (P n) → ((k : ℕ) × First P k) ⊎ ((k : ℕ) → k < suc n → ¬ P k)
      go (inl p) e = inl p
      go (inr f) (yes p) = inl (n, (p, f))
      go (inr f) (no q) = inr (λ k h. further n f q k (omega arith))

  pub first_once : (k j : ℕ) → First P k → First P j → k ≡ j
  first_once k j (p, f) (q, g) = go (dec_lt k j) (dec_lt j k)
    where
      go : Dec (k < j) → Dec (j < k) → k ≡ j
      go (yes a) d = absurd (g k a p)
      go (no a) (yes b) = absurd (f j b q)
      go (no a) (no b) = omega arith
