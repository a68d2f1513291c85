-- What the program asks for: the number that its argument is, by its code, or 0, which is nobody's, where it is none. For the
-- program alone; what a number is, `register` says.
use Rattle.std.specs.Prelude.{List, ◌⊎◌, ◌≡◌, ℕ}
use Rattle.promises.specs.NumberCalls.{Names}

abbrev pub NumberOf : (argument : List ℕ) → (number : ℕ) → Type 0
NumberOf argument number = Names argument number ⊎ ((number ≡ 0) × ((n : ℕ) → ¬ Names argument n))
