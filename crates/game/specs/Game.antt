-- The game of demand 2: the play, a choice of objections, and what it is to force a win within a number of turns.
-- "A statement is on the table. The first speaker names an objection to it, the second an objection to that one, and so
-- on in turn. Whoever has none to name loses. Faced with a statement marked unread, a speaker may ask for time instead,
-- and the play ends with no winner."
use Rattle.std.specs.Prelude.{◌⊎◌, ℕ, suc, ◌≤◌}
use Rattle.game.specs.Book.{Book, Objected, Objects, Unread, Read}

-- whose turn it is, said by the speaker who keeps to a choice
pub data Turn : Type 0 where
  mine theirs : Turn

-- "a choice of one objection for each statement that has any": σ y, for the statement y
abbrev pub Choice : Book → (ℕ → ℕ) → Type 0
Choice B σ = (y : ℕ) → Objected B y → Objects B (σ y) y

-- Reach B σ t x k m y: where I keep to σ, a play that begins with x on the table and the turn t can have come, after k
-- turns (objections named), to y, which the speaker m now faces. I name what σ says; they name anything.
pub data Reach (B : Book) (σ : ℕ → ℕ) (t : Turn) (x : ℕ) : ℕ → Turn → ℕ → Type 0 where
  start : Reach B σ t x 0 t x
  kept : {k y : ℕ} → Reach B σ t x k mine y → Objected B y → Reach B σ t x (suc k) theirs (σ y)
  named : {k y z : ℕ} → Reach B σ t x k theirs y → Objects B z y → Reach B σ t x (suc k) mine z

-- A play can end where the speaker has none to name, and where they face an unread statement and ask for time. (While I
-- keep to σ I ask for no time.)
abbrev pub CanEnd : Book → Turn → ℕ → Type 0
CanEnd B mine y = ¬ Objected B y
CanEnd B theirs y = (¬ Objected B y) ⊎ Unread B y

-- I have won: "the other having none to name and no right to ask for time".
abbrev pub Won : Book → Turn → ℕ → Type 0
Won B mine y = ⊥
Won B theirs y = (¬ Objected B y) × Read B y

-- "every play in which that speaker keeps to it ends, within that number, with the other having none to name and no
-- right to ask for time": no play goes on past n turns, and wherever one can end, I have won.
pub record Forces (B : Book) (σ : ℕ → ℕ) (t : Turn) (n x : ℕ) : Type 0 where
  pub choice : Choice B σ
  pub within : (k : ℕ) (m : Turn) (y : ℕ) → Reach B σ t x k m y → k ≤ n
  pub won : (k : ℕ) (m : Turn) (y : ℕ) → Reach B σ t x k m y → CanEnd B m y → Won B m y

-- The first speaker can force a win within n turns, x being on the table; the second can.
abbrev pub FirstWins : Book → ℕ → ℕ → Type 0
FirstWins B n x = (σ : ℕ → ℕ) × Forces B σ mine n x

abbrev pub SecondWins : Book → ℕ → ℕ → Type 0
SecondWins B n x = (σ : ℕ → ℕ) × Forces B σ theirs n x
