-- Every promise about one statement of lists leaves one answer and one content of the room: `unique_CALL` for each call; and 14,
-- 15 and 10 are given exactly when 01 says.
use mathlib.Core.List.{List}
use mathlib.Core.Logic.{◌↔◌}
use mathlib.Core.Path.{ap, refl, ◌≡◌}
use Prim.Native.Nat.{ℕ, ◌≤◌, ◌<◌}
use native.Mathlib.Omega.{arith}
use lib.ListN.{length}
use Rattle.game.specs.Book.{book_of}
use Rattle.game.proofs.Argument.{line_unique}
use Rattle.game.proofs.Exercise.{answered_once}
use Rattle.lists.specs.Refuses.{Lists}
use Rattle.answer.specs.declared.Refusal.{Refusal}
use Rattle.answer.specs.declared.Refusal.TheVariants.{Asked, Turns, Room}
use Rattle.answer.specs.Answer.{Asks}
use Rattle.answer.specs.Answer.{Answer}
use Rattle.answer.proofs.Rooms.{written_unique}
use Rattle.answer.proofs.Promises.{asks_none, asks_once, Exactly, through}
use Rattle.answer.proofs.Inputs.{on_unique, on_asked}
use Rattle.promises.specs.OnLists.{OnLists}
use Rattle.promises.proofs.OnLists.{lists_apart, no_lists_fault}
use Rattle.promises.specs.ArgumentCalls.{PairsArgumentShort, PairsArgumentIn, PairsArgument}
use Rattle.promises.specs.ExerciseCalls.{PairsExerciseIn, PairsExercise}

module _ (marks objectors targets : List ℕ) where
  -- the statement asked for, and its line and answer, are one
  module _ (place : ℕ) where
    line_apart : (room : List ℕ) (r : Refusal) (n : ℕ) (after : List ℕ) → Asks (place < length marks) 0
        (PairsArgumentShort marks objectors targets place room) r
        → PairsArgumentIn marks objectors targets place room n after → ⊥
    line_apart room r n after q (h, (k, is, (c, f, e))) =
        asks_none (place < length marks) 0 (PairsArgumentShort marks objectors targets place room) r q h (omega arith)
        (λ s. omega (arith, f, s.2, ap length (line_unique (book_of marks objectors targets) s.1 is)))

    pub unique_pairs_line : (room : List ℕ) (a a' : Answer) (after after' : List ℕ)
        → PairsArgument marks objectors targets place room a after → PairsArgument marks objectors targets place room a' after'
        → (a ≡ a') × (after ≡ after')
    unique_pairs_line room =
        on_unique (lists_apart marks objectors targets) (λ m. Asks (place < length marks) 0 short)
        (λ m. asks_once (place < length marks) 0 short) (λ m. PairsArgumentIn marks objectors targets place room)
        (λ m l. line_apart room) (λ m l. same) room
      where
        short : Type 0
        short = PairsArgumentShort marks objectors targets place room

        same : (n n' : ℕ) (after after' : List ℕ) → PairsArgumentIn marks objectors targets place room n after
            → PairsArgumentIn marks objectors targets place room n' after' → (n ≡ n') × (after ≡ after')
        same n n' after after' (h, (k, is, w)) (h', (k', is', w')) =
            written_unique k k' room n n' after after' (line_unique (book_of marks objectors targets) is is') w w'

    module _ (turns : ℕ) where
      exercise_apart : (r : Refusal) (n : ℕ) (after : Unit {0}) → Asks (place < length marks) turns ⊥ r
          → PairsExerciseIn marks objectors targets place turns n after → ⊥
      exercise_apart r n after q (h, few, is) = asks_none (place < length marks) turns ⊥ r q h few (λ s. s)

      pub unique_pairs_exercise : (a a' : Answer) → PairsExercise marks objectors targets place turns a
          → PairsExercise marks objectors targets place turns a' → a ≡ a'
      unique_pairs_exercise a a' p q =
          (on_unique (lists_apart marks objectors targets) (λ m. Asks (place < length marks) turns ⊥)
          (λ m. asks_once (place < length marks) turns ⊥) (λ m. PairsExerciseIn marks objectors targets place turns)
          (λ m l. exercise_apart) (λ m l. same) tt a a' tt tt p q).0
        where
          same : (n n' : ℕ) (after after' : Unit {0}) → PairsExerciseIn marks objectors targets place turns n after
              → PairsExerciseIn marks objectors targets place turns n' after' → (n ≡ n') × (after ≡ after')
          same n n' after after' g g' = (answered_once (book_of marks objectors targets) place turns n n' g.2 g'.2, refl)

  -- 14, 15 and 10, each given exactly when 01 says
  exactly : {Rooms : Type 0} (there : Type 0) (turns : ℕ) (short : Type 0) (gives : ℕ → Rooms → Type 0)
      → ((r : Refusal) (n : ℕ) (after : Rooms) → Asks there turns short r → gives n after → ⊥) → (rooms : Rooms) (a : Answer)
      (after : Rooms) → OnLists marks objectors targets (Asks there turns short) gives rooms a after
      → Exactly (Lists marks objectors targets × (¬ there)) (Lists marks objectors targets × (there × (6 < turns)))
      (Lists marks objectors targets × (there × (turns ≤ 6) × short)) a
  exactly there turns short gives fine rooms a after p = record {
    fourteen = through whole.fourteen made;
    fifteen = through whole.fifteen made;
    ten = through whole.ten made;
  }
    where
      whole : Exactly ((m : Unit {0}) × Lists marks objectors targets × (¬ there))
          ((m : Unit {0}) × Lists marks objectors targets × (there × (6 < turns)))
          ((m : Unit {0}) × Lists marks objectors targets × (there × (turns ≤ 6) × short)) a
      whole =
          on_asked (lists_apart marks objectors targets) (λ m. there) turns (λ m. short) (λ m. gives) (λ m l. fine)
          (no_lists_fault marks objectors targets Asked tt) (no_lists_fault marks objectors targets Turns tt)
          (no_lists_fault marks objectors targets Room tt) rooms a after p

      -- lists make nothing but themselves
      made : {P : Type 0} → ((m : Unit {0}) × Lists marks objectors targets × P) ↔ (Lists marks objectors targets × P)
      made = (λ (m, l, p). (l, p), λ (l, p). (tt, l, p))

  pub exactly_pairs_line : (place : ℕ) (room : List ℕ) (a : Answer) (after : List ℕ)
      → PairsArgument marks objectors targets place room a after → Exactly
      (Lists marks objectors targets × (¬ (place < length marks)))
      (Lists marks objectors targets × ((place < length marks) × (6 < 0)))
      (Lists marks objectors targets × ((place < length marks) × (0 ≤ 6)
      × PairsArgumentShort marks objectors targets place room)) a
  exactly_pairs_line place room =
      exactly (place < length marks) 0 (PairsArgumentShort marks objectors targets place room)
      (PairsArgumentIn marks objectors targets place room) (line_apart place room) room

  pub exactly_pairs_exercise : (place turns : ℕ) (a : Answer) → PairsExercise marks objectors targets place turns a
      → Exactly (Lists marks objectors targets × (¬ (place < length marks)))
      (Lists marks objectors targets × ((place < length marks) × (6 < turns)))
      (Lists marks objectors targets × ((place < length marks) × (turns ≤ 6) × ⊥)) a
  exactly_pairs_exercise place turns a =
      exactly (place < length marks) turns ⊥ (PairsExerciseIn marks objectors targets place turns)
      (exercise_apart place turns) tt a
      tt
