-- The promise of the call for the reason of a statement of a register text. What is written, `reason` says.
use Rattle.std.specs.Prelude.{List, ℕ, ◌<◌, length}
use Rattle.register.specs.Register.{Register, Places, Issued}
use Rattle.promises.specs.OnText.{OnText}
use Rattle.answer.specs.declared.Refusal.{Refusal}
use Rattle.answer.specs.Answer.{Written, Asks}
use Rattle.answer.specs.Answer.{Answer}
use Rattle.reason.specs.Reasons.{IsReason}

-- The room holds the reason of the statement of this number, n bytes; the room is shorter than that; and what is refused: 14,
-- 15, 10, of which 15 never, since no turns are asked.
abbrev pub ReasonIn : Register → (number : ℕ) → List ℕ → ℕ → List ℕ → Type 0
ReasonIn R number room n after = (x : ℕ) × Places R number x × ((l : List ℕ) × IsReason R x l × Written l room n after)

abbrev pub ReasonShort : Register → (number : ℕ) → List ℕ → Type 0
ReasonShort R number room = (x : ℕ) × Places R number x × ((l : List ℕ) × IsReason R x l × (length room < length l))

abbrev pub ReasonRefused : Register → (number : ℕ) → List ℕ → Refusal → Type 0
ReasonRefused R number room = Asks (Issued R number) 0 (ReasonShort R number room)

-- the reason of the statement of a number
abbrev pub TextReason : (text : List ℕ) → (number : ℕ) → List ℕ → Answer → List ℕ → Type 0
TextReason text number room = OnText text (λ R. ReasonRefused R number room) (λ R. ReasonIn R number room) room
