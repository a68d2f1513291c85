-- The promises of the two calls on one number: its code, from how it is written, and how it is written, from its code. What a
-- number is, `register` says. One that is none is refused as spoiled, 3, of no line.
use Rattle.std.specs.Prelude.{List, ◌≡◌, ℕ, ◌<◌, length}
use Rattle.register.specs.Number.{IsNumber, number_bytes}
use Rattle.register.specs.declared.TextFault.TheVariants.{Spoiled}
use Rattle.answer.specs.declared.Refusal.{Refusal}
use Rattle.answer.specs.declared.Refusal.TheVariants.{Text}
use Rattle.answer.specs.Answer.{Answer}
use Rattle.answer.specs.Answer.{OnInput, Short, Written}

-- the bytes are this number, as a register text has it
abbrev pub Names : (written : List ℕ) → (number : ℕ) → Type 0
Names written number = IsNumber number × (written ≡ number_bytes number)

-- "3 with place 0 exactly if it is no number", "exactly if the code is nobody's"
abbrev pub NamesNone : (written : List ℕ) → Refusal → Type 0
NamesNone written r = ((number : ℕ) → ¬ Names written number) × (r ≡ Text (Spoiled 0))

abbrev pub IsNobodys : (number : ℕ) → Refusal → Type 0
IsNobodys number r = (¬ IsNumber number) × (r ≡ Text (Spoiled 0))

-- the code of what is written; it lends no room
abbrev pub NumberCode : (written : List ℕ) → Answer → Type 0
NumberCode written a =
    OnInput {Rooms = Unit {0}} (Names written) (NamesNone written) (λ number r. ⊥) (λ number n after. n ≡ number) tt a tt

-- how the number of a code is written, in a room that is long enough
abbrev pub NumberText : (number : ℕ) → List ℕ → Answer → List ℕ → Type 0
NumberText number room =
    OnInput (λ l. Names l number) (IsNobodys number) (λ l. Short (length room < length l)) (λ l. Written l room) room
