-- 01's numbers of what a text is refused for, with the words of its table, and the places: "For a text the place is the line,
-- from 1". When a text has which fault, `Reads` says.
use Rattle.std.specs.Prelude.{ℕ}
use Rattle.register.specs.declared.TextFault.{TextFault}
use Rattle.register.specs.declared.TextFault.TheVariants.{TooLong, Unended, Spoiled, Late, Issued, Statements, Unknown}
use Rattle.register.specs.declared.TextFault.TheVariants.{Repeated, Objections}

-- a row of the table: the number, and the place
abbrev pub text_fault_row : TextFault → ℕ × ℕ
-- text over 65,535 bytes
text_fault_row TooLong = (1, 0)
-- text not empty and its last byte not 10
text_fault_row Unended = (2, 0)
-- spoiled line
text_fault_row (Spoiled line) = (3, line)
-- statement line after an objection line
text_fault_row (Late line) = (4, line)
-- statement number already issued
text_fault_row (Issued line) = (5, line)
-- the 1,025th statement
text_fault_row (Statements line) = (6, line)
-- objector or target not on the register
text_fault_row (Unknown line) = (7, line)
-- same objector and target as earlier
text_fault_row (Repeated line) = (8, line)
-- the 4,097th objection
text_fault_row (Objections line) = (9, line)

abbrev pub text_fault_number : TextFault → ℕ
text_fault_number fault = (text_fault_row fault).0

abbrev pub text_fault_place : TextFault → ℕ
text_fault_place fault = (text_fault_row fault).1
