-- Every promise of what is asked of one number leaves one answer and one content of the rooms: `unique_CALL` for each call. And
-- its refusals are given exactly when they are due: `exactly_CALL`.
use mathlib.Core.List.{List}
use mathlib.Core.Path.{subst, refl, ◌≡◌}
use Prim.Native.Nat.{ℕ, ◌≤◌, ◌<◌}
use lib.ListN.{length, length-map}
use Rattle.game.specs.Argument.{Argument}
use Rattle.game.proofs.Argument.{line_unique}
use Rattle.game.specs.Exercise.{Answered}
use Rattle.game.proofs.Exercise.{answered_once}
use Rattle.register.specs.Register.{Register, book, Issued}
use Rattle.answer.specs.declared.Refusal.{Refusal}
use Rattle.answer.specs.Answer.{Asks}
use Rattle.answer.specs.Answer.{Answer}
use Rattle.answer.proofs.Promises.{asks_none, asks_once, Exactly}
use Rattle.answer.proofs.Inputs.{on_unique}
use Rattle.register.proofs.Order.{place_once}
use Rattle.promises.proofs.OnText.{text_apart}
use Rattle.promises.proofs.AskedOnText.{list_unique, asked_exactly, list_apart}
use Rattle.promises.specs.ArgumentCalls.{by_number, TextArgument, TextArgumentShort, TextArgumentIn}
use Rattle.promises.specs.ExerciseCalls.{TextExerciseIn, TextExercise}
use Rattle.register.specs.Reads.{Accepts}

-- a statement has one line of argument, and told by numbers it is as long
abbrev LineOf : Register → ℕ → List ℕ → Type 0
LineOf R x l = Argument (book R) x l

line_of_once : (R : Register) (x : ℕ) (l l' : List ℕ) → LineOf R x l → LineOf R x l' → l ≡ l'
line_of_once R x l l' = line_unique (book R)

as_many : (R : Register) (l : List ℕ) → length (by_number R l) ≡ length l
as_many R l = length-map l _

-- A text is the written form of one register at most, so its answers are one too.
module _ (s : List ℕ) where
  -- what is asked of one number
  module _ (number : ℕ) where
    pub unique_text_line : (room : List ℕ) (a a' : Answer) (after after' : List ℕ) → TextArgument s number room a after
        → TextArgument s number room a' after' → (a ≡ a') × (after ≡ after')
    unique_text_line = list_unique s number LineOf line_of_once by_number as_many

    module _ (turns : ℕ) where
      exercise_apart : (R : Register) → Accepts s R → (r : Refusal) (n : ℕ) (after : Unit {0})
          → Asks (Issued R number) turns ⊥ r → TextExerciseIn R number turns n after → ⊥
      exercise_apart R a r n after q (few, (x, h, is)) =
          asks_none (Issued R number) turns ⊥ r q (x, h.0, h.1) few (λ z. z)

      pub unique_text_exercise : (a a' : Answer) → TextExercise s number turns a → TextExercise s number turns a' → a ≡ a'
      unique_text_exercise a a' p q =
          (on_unique (text_apart s) (λ R. Asks (Issued R number) turns ⊥) (λ R. asks_once (Issued R number) turns ⊥)
          (λ R. TextExerciseIn R number turns) exercise_apart same tt a a' tt tt p q).0
        where
          same : (R : Register) → Accepts s R → (n n' : ℕ) (after after' : Unit {0}) → TextExerciseIn R number turns n after
              → TextExerciseIn R number turns n' after' → (n ≡ n') × (after ≡ after')
          same R a n n' after after' (few, (x, h, is)) (few', (x', h', is')) = (
            answered_once (book R) x turns n n' is (subst (λ i. Answered (book R) i turns n')
                (place_once R a.valid number x' x h' h) is'),
            refl,
          )

  -- 14, 15 and 10, each given exactly when 01 says
  pub exactly_text_line : (number : ℕ) (room : List ℕ) (a : Answer) (after : List ℕ) → TextArgument s number room a after
      → Exactly ((R : Register) × Accepts s R × (¬ Issued R number)) ((R : Register) × Accepts s R × (Issued R number × (6 < 0)))
      ((R : Register) × Accepts s R × (Issued R number × (0 ≤ 6) × TextArgumentShort R number room)) a
  exactly_text_line number room =
      asked_exactly s number 0 (λ R. TextArgumentShort R number room)
      (λ R. TextArgumentIn R number room)
      (list_apart s number LineOf line_of_once by_number as_many room) room

  pub exactly_text_exercise : (number turns : ℕ) (a : Answer) → TextExercise s number turns a
      → Exactly ((R : Register) × Accepts s R × (¬ Issued R number))
      ((R : Register) × Accepts s R × (Issued R number × (6 < turns)))
      ((R : Register) × Accepts s R × (Issued R number × (turns ≤ 6) × ⊥)) a
  exactly_text_exercise number turns a =
      asked_exactly s number turns (λ R. ⊥) (λ R. TextExerciseIn R number turns)
      (exercise_apart number turns) tt a tt
