-- Not for callers of the product: what is promised of one register about the statement of one number, its line of argument.
use Rattle.std.specs.Prelude.{List, ℕ}
use Rattle.register.specs.Register.{Register}
use Rattle.answer.specs.Answer.{Promised}
use Rattle.answer.specs.Answer.{Answer}
use Rattle.promises.specs.ArgumentCalls.{TextArgumentRefused, TextArgumentIn}

-- Not for callers: the same of one register.
abbrev pub ArgumentWritten : Register → (number : ℕ) → List ℕ → Answer → List ℕ → Type 0
ArgumentWritten R number room a after = Promised (TextArgumentRefused R number room) (TextArgumentIn R number room) room a after
