-- The line of argument of a statement.
use Rattle.std.specs.Prelude.{List, [], ◌∷◌, ◌≡◌, suc, ℕ, ◌≤◌}
use Rattle.game.specs.Book.{Book, Objects}
use Rattle.game.specs.Label.{Verdict, falls, stands, is_open, Means}

-- "length is one less and [..] label is the other of stands and falls"
abbrev pub Onward : Verdict → Verdict → Type 0
Onward (falls n) (stands m) = n ≡ suc m
Onward (stands n) (falls m) = n ≡ suc m
Onward (falls n) (falls m) = ⊥
Onward (falls n) is_open = ⊥
Onward (stands n) (stands m) = ⊥
Onward (stands n) is_open = ⊥
Onward is_open w = ⊥

-- the length is not above 0: "An open statement gives itself alone."
abbrev pub Last : Verdict → Type 0
Last is_open = Unit {0}
Last (stands n) = n ≡ 0
Last (falls n) = n ≡ 0

-- y is "the earliest listed objector" of x that has the verdict w
pub record Earliest (B : Book) (x : ℕ) (w : Verdict) (y : ℕ) : Type 0 where
  pub objects : Objects B y x
  pub means : Means B y w
  pub first : (z : ℕ) → Objects B z x → Means B z w → y ≤ z

-- Argument B x l: l is the line of argument of x. "A line of argument starts at the asked statement"; "the rest of the line
-- is the line of that objector".
pub data Argument (B : Book) : ℕ → List ℕ → Type 0 where
  ends : {x : ℕ} (v : Verdict) → Means B x v → Last v → Argument B x (x ∷ [])
  goes_on : {x y : ℕ} {l : List ℕ} (v w : Verdict) → Means B x v → Onward v w → Earliest B x w y → Argument B y l
      → Argument B x (x ∷ l)
