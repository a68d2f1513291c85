-- The one shape of a promise on a register text: the refusals of the text come first, then those of what is asked of its
-- register, and what is given is of its register.
use Rattle.std.specs.Prelude.{List, ◌≡◌, ℕ}
use Rattle.register.specs.Register.{Register}
use Rattle.register.specs.Reads.{Refuses, Accepts}
use Rattle.register.specs.declared.TextFault.{TextFault}
use Rattle.answer.specs.declared.Refusal.{Refusal}
use Rattle.answer.specs.declared.Refusal.TheVariants.{Text}
use Rattle.answer.specs.Answer.{Answer}
use Rattle.answer.specs.Answer.{OnInput}

-- the text is refused for the fault that it has
abbrev pub TextRefused : (text : List ℕ) → Refusal → Type 0
TextRefused text r = (fault : TextFault) × Refuses text fault × (r ≡ Text fault)

abbrev pub OnText : {Rooms : Type 0} → (text : List ℕ) → (later : Register → Refusal → Type 0)
    → (gives : Register → ℕ → Rooms → Type 0) → Rooms → Answer → Rooms → Type 0
OnText text = OnInput (Accepts text) (TextRefused text)
