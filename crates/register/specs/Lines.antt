-- The lines of a register text: their bytes, and which bytes begin with one. "Lines of text, fields parted by one tab (byte 9),
-- every line ended by byte 10." What reading a line answers is left to the reader.
use Rattle.std.specs.Prelude.{List, [], ◌∷◌, ◌++◌, ◌≡◌, ℕ}
use Rattle.register.specs.Number.{number_bytes, IsNumber}
use Rattle.register.specs.declared.Mark.{Mark}
use Rattle.register.specs.declared.Mark.TheVariants.{Read, Unread}
use Rattle.register.specs.declared.Line.{Line}
use Rattle.register.specs.declared.Line.TheVariants.{Statement, Objection}

-- the number of a mark: 0 read, 1 unread
abbrev pub mark_number : Mark → ℕ
mark_number Read = 0
mark_number Unread = 1

-- "The mark is `R` (read) or `U` (unread)."
abbrev pub mark_byte : Mark → ℕ
mark_byte Read = 82
mark_byte Unread = 85

-- "Statement line: `S`, a number, a mark." "Objection line: `O`, the objector's number, the target's number."
abbrev pub line_bytes : Line → List ℕ
line_bytes (Statement st) = 83 ∷ 9 ∷ (number_bytes st.number ++ (9 ∷ mark_byte st.mark ∷ 10 ∷ []))
line_bytes (Objection o) = 79 ∷ 9 ∷ (number_bytes o.objector ++ (9 ∷ (number_bytes o.target ++ (10 ∷ []))))

-- a line's numbers are numbers
abbrev pub WellFormed : Line → Type 0
WellFormed (Statement st) = IsNumber st.number
WellFormed (Objection o) = IsNumber o.objector × IsNumber o.target

-- Bytes that begin with the line l. "A line that is of neither kind is spoiled."
abbrev pub BeginsWith : Line → List ℕ → Type 0
BeginsWith l s = WellFormed l × ((rest : List ℕ) × (s ≡ line_bytes l ++ rest))
