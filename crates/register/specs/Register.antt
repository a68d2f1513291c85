-- A register as a text has it: statement lines and objection lines, by numbers; how it is written; and the book that it
-- makes, by places in listed order.
use Rattle.std.specs.Prelude.{Bool, true, false, List, map, [], ◌∷◌, ◌++◌, ◌≡◌, ℕ, suc, ◌≤◌, ◌<◌, eqb, length, get_or}
use Rattle.game.specs.Book.{Book, book_of}
use Rattle.register.specs.Number.{IsNumber}
use Rattle.register.specs.Lines.{line_bytes, mark_number}
use Rattle.register.specs.declared.StatementLine.{StatementLine}
use Rattle.register.specs.declared.ObjectionLine.{ObjectionLine}
use Rattle.register.specs.declared.Line.{Line}
use Rattle.register.specs.declared.Line.TheVariants.{Statement, Objection}

pub record Register : Type 0 where
  pub statements : List StatementLine
  pub objections : List ObjectionLine

-- the register of some statements and no objections
abbrev pub bare : List StatementLine → Register
bare S = record { statements = S; objections = [] }

-- the numbers of the statements, in listed order; of the objectors and targets, in the order of the lines
abbrev pub numbers : Register → List ℕ
numbers R = map (λ (st : StatementLine). st.number) R.statements

abbrev pub objector_numbers : Register → List ℕ
objector_numbers R = map (λ (o : ObjectionLine). o.objector) R.objections

abbrev pub target_numbers : Register → List ℕ
target_numbers R = map (λ (o : ObjectionLine). o.target) R.objections

-- n is on the register
abbrev pub Issued : Register → ℕ → Type 0
Issued R n = (i : ℕ) × (i < length (numbers R)) × (get_or (numbers R) i 0 ≡ n)

-- the register has an objection of y against x, by numbers
abbrev pub Has : Register → ℕ → ℕ → Type 0
Has R y x = (k : ℕ) × (k < length R.objections) × (get_or (objector_numbers R) k 0 ≡ y) × (get_or (target_numbers R) k 0 ≡ x)

-- within the limits, numbers issued once, no unknown number, no repeat
pub record Valid (R : Register) : Type 0 where
  pub few_statements : length R.statements ≤ 1024
  pub few_objections : length R.objections ≤ 4096
  pub numbered : (i : ℕ) → i < length (numbers R) → IsNumber (get_or (numbers R) i 0)
  pub once : (i j : ℕ) → i < j → j < length (numbers R) → get_or (numbers R) i 0 ≡ get_or (numbers R) j 0 → ⊥
  pub known : (k : ℕ) → k < length R.objections
      → Issued R (get_or (objector_numbers R) k 0) × Issued R (get_or (target_numbers R) k 0)
  pub distinct : (j k : ℕ) → j < k → k < length R.objections
      → get_or (objector_numbers R) j 0 ≡ get_or (objector_numbers R) k 0 → get_or (target_numbers R) j 0 ≡ get_or
      (target_numbers R) k 0 → ⊥

-- "All statement lines come before all objection lines."
abbrev pub lines : Register → List Line
lines R = map Statement R.statements ++ map Objection R.objections

unfoldable pub bytes : List Line → List ℕ
bytes [] = []
bytes (l ∷ ls) = line_bytes l ++ bytes ls

abbrev pub written : Register → List ℕ
written R = bytes (lines R)

-- the place of a number: how many statements are listed before it
abbrev pub pick_place : Bool → ℕ → ℕ → ℕ
pick_place true a b = a
pick_place false a b = b

unfoldable pub place_of : List ℕ → ℕ → ℕ
place_of [] n = 0
place_of (m ∷ ms) n = pick_place (eqb m n) 0 (suc (place_of ms n))

-- the lists that the register makes, and its book
abbrev pub marks_of : Register → List ℕ
marks_of R = map (λ (st : StatementLine). mark_number st.mark) R.statements

abbrev pub objectors_of : Register → List ℕ
objectors_of R = map (place_of (numbers R)) (objector_numbers R)

abbrev pub targets_of : Register → List ℕ
targets_of R = map (place_of (numbers R)) (target_numbers R)

abbrev pub book : Register → Book
book R = book_of (marks_of R) (objectors_of R) (targets_of R)

-- the statement of this number is at the place x
abbrev pub Places : Register → ℕ → ℕ → Type 0
Places R number x = (x < length (numbers R)) × (get_or (numbers R) x 0 ≡ number)
