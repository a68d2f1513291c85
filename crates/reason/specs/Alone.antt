-- The lines of a register that are in the reason for one of its statements: which objections, and the register of nothing else,
-- "of only the reason's statements, with their marks, and its objections". What a reason is, `game` says.
use Rattle.std.specs.Prelude.{Bool, cond, List, [], ◌∷◌, ◌↔◌, ◌≡◌, ℕ, suc, ◌<◌, T, length, get_or}
use Rattle.game.specs.Reason.{InReason, OfReason}
use Rattle.register.specs.Register.{Register, book, objectors_of, targets_of}

-- the entries of a list that pass a test, which is told their places; in order
unfoldable pub keep : {A : Type 0} → (ℕ → Bool) → List A → List A
keep p [] = []
keep p (a ∷ l) = cond (p 0) (a ∷ keep (λ k. p (suc k)) l) (keep (λ k. p (suc k)) l)

-- the objections that pass the test are exactly those in the reason for the statement at the place x
abbrev pub Chooses : Register → ℕ → (ℕ → Bool) → Type 0
Chooses R x p =
    (k : ℕ) → k < length R.objections → T (p k) ↔ InReason (book R) x (get_or (objectors_of R) k 0) (get_or (targets_of R) k 0)

-- S has just the lines of R that are in the reason for the statement at the place x, in order
pub record Alone (R : Register) (x : ℕ) (S : Register) : Type 0 where
  pub statement : ℕ → Bool
  pub statements_exactly : (z : ℕ) → z < length R.statements → T (statement z) ↔ OfReason (book R) x z
  pub statements_are : S.statements ≡ keep statement R.statements
  pub objection : ℕ → Bool
  pub objections_exactly : Chooses R x objection
  pub objections_are : S.objections ≡ keep objection R.objections
