-- Not for callers of the product: what is promised of one register about the statement of one number, the class exercise.
use Rattle.std.specs.Prelude.{ℕ}
use Rattle.register.specs.Register.{Register, Issued}
use Rattle.answer.specs.Answer.{Promised, Asks}
use Rattle.answer.specs.Answer.{Answer}
use Rattle.promises.specs.ExerciseCalls.{TextExerciseIn}

abbrev pub ExerciseAnswered : Register → (number turns : ℕ) → Answer → Type 0
ExerciseAnswered R number turns a = Promised (Asks (Issued R number) turns ⊥) (TextExerciseIn R number turns) tt a tt
