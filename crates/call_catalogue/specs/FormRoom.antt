-- Not for callers of the product: whether there is room for the bytes of a form, and what is promised of them.
use Rattle.std.specs.Prelude.{Bool, true, false, List, ℕ, ◌≤◌, ◌<◌, length}
use Rattle.answer.specs.Answer.{Promised, Short, Written}
use Rattle.answer.specs.Answer.{Answer}

-- Not for callers: whether so many bytes are room for the form.
abbrev pub FormFits : (form : List ℕ) → (room : ℕ) → Bool → Type 0
FormFits form room true = length form ≤ room
FormFits form room false = room < length form

-- Not for callers: the form is written, or there is too little room for it.
abbrev pub FormWritten : (form : List ℕ) → (room : List ℕ) → Answer → List ℕ → Type 0
FormWritten form room a after = Promised (Short (length room < length form)) (Written form room) room a after
