-- The promises of the calls for the class exercise: on handed lists, about the statement at a place; on a register text, about
-- the statement of a number. What the exercise answers, `game` says. The calls lend no room.
use Rattle.std.specs.Prelude.{List, ℕ, ◌≤◌, ◌<◌, length}
use Rattle.game.specs.Book.{book_of}
use Rattle.game.specs.Exercise.{Answered}
use Rattle.answer.specs.Answer.{Asks}
use Rattle.answer.specs.Answer.{Answer}
use Rattle.promises.specs.OnLists.{OnLists}
use Rattle.register.specs.Register.{Register, Places, book, Issued}
use Rattle.promises.specs.OnText.{OnText}

module _ (marks objectors targets : List ℕ) where
  -- what the class exercise answers; it lends no room
  abbrev pub PairsExerciseIn : (place turns : ℕ) → ℕ → Unit {0} → Type 0
  PairsExerciseIn place turns n after =
      (place < length marks) × (turns ≤ 6) × Answered (book_of marks objectors targets) place turns n

  abbrev pub PairsExercise : (place turns : ℕ) → Answer → Type 0
  PairsExercise place turns a =
      OnLists marks objectors targets (Asks (place < length marks) turns ⊥) (PairsExerciseIn place turns) tt a tt

-- the class exercise's answer of the statement of this number
abbrev pub TextExerciseIn : Register → (number turns : ℕ) → ℕ → Unit {0} → Type 0
TextExerciseIn R number turns n after = (turns ≤ 6) × ((x : ℕ) × Places R number x × Answered (book R) x turns n)

-- what the class exercise answers; it lends no room
abbrev pub TextExercise : (text : List ℕ) → (number turns : ℕ) → Answer → Type 0
TextExercise text number turns a =
    OnText text (λ R. Asks (Issued R number) turns ⊥) (λ R. TextExerciseIn R number turns) tt a tt
