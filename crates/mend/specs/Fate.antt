-- What can become of a line of a text that is mended, and the number that a report has for it. Which fate a line has is for
-- others to say.
use Rattle.std.specs.Prelude.{Bool, true, false, ℕ}
use Rattle.register.specs.TextFaults.{text_fault_number}
use Rattle.register.specs.declared.TextFault.{TextFault}
use Rattle.register.specs.declared.TextFault.TheVariants.{Unended, Spoiled, Late, Issued, Statements, Unknown, Repeated}
use Rattle.register.specs.declared.TextFault.TheVariants.{Objections}

-- why a line is dropped
pub data Cause : Type 0 where
  unended_line spoiled_line second_statement statement_limit unknown_number repeat objection_limit : Cause

-- A line is kept in its place, or kept and moved, or dropped for a cause.
pub data Fate : Type 0 where
  kept moved : Fate
  dropped : Cause → Fate

-- "lines that stay": those kept in their place, and those moved
abbrev pub stays : Fate → Bool
stays kept = true
stays moved = true
stays (dropped cause) = false

-- the fault that 01 has for a line with this cause
abbrev pub fault_of : (line : ℕ) → Cause → TextFault
fault_of line unended_line = Unended
fault_of line spoiled_line = Spoiled line
fault_of line second_statement = Issued line
fault_of line statement_limit = Statements line
fault_of line unknown_number = Unknown line
fault_of line repeat = Repeated line
fault_of line objection_limit = Objections line

-- "cause by 01's number"; "a line moved and kept has 4". A line that is kept in its place has no cause, and 0 stands for it.
abbrev pub fate_number : (line : ℕ) → Fate → ℕ
fate_number line kept = 0
fate_number line moved = text_fault_number (Late line)
fate_number line (dropped cause) = text_fault_number (fault_of line cause)
