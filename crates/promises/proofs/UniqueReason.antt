-- The promise of a reason leaves one answer and one content of the room, and 14 and 10 are given exactly when they are due.
use mathlib.Core.List.{List}
use mathlib.Core.Path.{refl, ◌≡◌}
use Prim.Native.Nat.{ℕ, ◌≤◌, ◌<◌}
use Rattle.register.specs.Register.{Register, Issued}
use Rattle.register.specs.Reads.{Accepts}
use Rattle.answer.specs.Answer.{Answer}
use Rattle.answer.proofs.Promises.{Exactly}
use Rattle.promises.proofs.AskedOnText.{list_unique, asked_exactly, list_apart}
use Rattle.reason.specs.Reasons.{IsReason}
use Rattle.promises.specs.ReasonCalls.{TextReason, ReasonShort, ReasonIn}
use Rattle.reason.proofs.Reasons.{reason_once}

module _ (s : List ℕ) (number : ℕ) (room : List ℕ) where
  pub unique_text_reason : (a a' : Answer) (after after' : List ℕ) → TextReason s number room a after
      → TextReason s number room a' after' → (a ≡ a') × (after ≡ after')
  unique_text_reason = list_unique s number IsReason reason_once (λ R l. l) (λ R l. refl) room

  pub exactly_text_reason : (a : Answer) (after : List ℕ) → TextReason s number room a after
      → Exactly ((R : Register) × Accepts s R × (¬ Issued R number)) ((R : Register) × Accepts s R × (Issued R number × (6 < 0)))
      ((R : Register) × Accepts s R × (Issued R number × (0 ≤ 6) × ReasonShort R number room)) a
  exactly_text_reason =
      asked_exactly s number 0 (λ R. ReasonShort R number room)
      (λ R. ReasonIn R number room)
      (list_apart s number IsReason reason_once (λ R l. l) (λ R l. refl) room) room
