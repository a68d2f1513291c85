-- The refusal numbers of 01 and of later requests, and the places. Those of a text and of lists are said with what they are
-- refused for; the rows here are of what is refused once they are accepted, with the words of the table.
use Rattle.std.specs.Prelude.{ℕ}
use Rattle.register.specs.TextFaults.{text_fault_row}
use Rattle.lists.specs.ListsFaults.{lists_fault_row}
use Rattle.answer.specs.declared.Refusal.{Refusal}
use Rattle.answer.specs.declared.Refusal.TheVariants.{Text, Lists, Room, Asked, Turns, Sheet}

-- a row of the table: the number, and the place
abbrev pub refusal_row : Refusal → ℕ × ℕ
refusal_row (Text fault) = text_fault_row fault
refusal_row (Lists fault) = lists_fault_row fault
-- lent room shorter than the answer
refusal_row Room = (10, 0)
-- asked statement not on the register
refusal_row Asked = (14, 0)
-- more than 6 turns asked
refusal_row Turns = (15, 0)
-- an old sheet with a 3, a size that isn't the register's, a set spare bit or wrong totals (E2)
refusal_row Sheet = (16, 0)

abbrev pub refusal_number : Refusal → ℕ
refusal_number r = (refusal_row r).0

abbrev pub refusal_place : Refusal → ℕ
refusal_place r = (refusal_row r).1
