-- The finish of demand 3: one way in which a register could come to be read to its end. A finish is a book, so no limit
-- binds it, and as a book has an objection or has it not, none is added twice.
use Rattle.std.specs.Prelude.{Bool, false, ◌&&◌, ◌||◌, ◌⊎◌, ℕ, ◌+◌, ◌≤◌, ◌<◌, T, ltb}
use Rattle.game.specs.Book.{Book, Listed, Objects, Read, Unread}

pub record Finish (B F : Book) : Type 0 where
  -- "A finish may add finitely many new statements": after the listed ones, which stay at their places
  pub more : B.size ≤ F.size
  -- the objections against a listed statement stay
  pub keeps : (y x : ℕ) → Listed B x → Objects B y x → Objects F y x
  -- "Among listed statements only the unread may get new objections"
  pub adds_none : (y x : ℕ) → Listed B x → Read B x → Objects F y x → Objects B y x
  -- "Then all are marked read."
  pub read : (x : ℕ) → Listed F x → Read F x

-- The same from the other side: n new statements, and a set of objections to add. "Among listed statements only the
-- unread may get new objections, from listed or new statements; new ones may get any."
abbrev pub Allowed : Book → ℕ → (ℕ → ℕ → Bool) → Type 0
Allowed B n adds = (y x : ℕ) → y < B.size + n → x < B.size + n → T (adds y x) → (B.size ≤ x) ⊎ Unread B x

-- the objections between listed statements
unfoldable pub between : Book → ℕ → ℕ → Bool
between B y x = (ltb y B.size && ltb x B.size) && B.objects y x

-- the book with these added, and all marked read
unfoldable pub finished : Book → ℕ → (ℕ → ℕ → Bool) → Book
finished B n adds = record { size = B.size + n; unread = λ x. false; objects = λ y x. between B y x || adds y x }
