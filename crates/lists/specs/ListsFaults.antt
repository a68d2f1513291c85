-- 01's numbers of what lists are refused for, with the words of its table, and the places: "for lists, the entry, from 0". When
-- lists have which fault, `Refuses` says.
use Rattle.std.specs.Prelude.{ℕ}
use Rattle.lists.specs.declared.ListsFault.{ListsFault}
use Rattle.lists.specs.declared.ListsFault.TheVariants.{Unequal, Statements, Objections, Mark, Place, Repeated}

-- a row of the table: the number, and the place
abbrev pub lists_fault_row : ListsFault → ℕ × ℕ
-- objector and target lists unequal in length
lists_fault_row Unequal = (11, 0)
-- over 1,024 marks
lists_fault_row Statements = (6, 0)
-- over 4,096 pairs
lists_fault_row Objections = (9, 0)
-- mark other than 0 or 1
lists_fault_row (Mark entry) = (12, entry)
-- a place outside the mark list
lists_fault_row (Place entry) = (13, entry)
-- same objector and target as earlier
lists_fault_row (Repeated entry) = (8, entry)

abbrev pub lists_fault_number : ListsFault → ℕ
lists_fault_number fault = (lists_fault_row fault).0

abbrev pub lists_fault_place : ListsFault → ℕ
lists_fault_place fault = (lists_fault_row fault).1
