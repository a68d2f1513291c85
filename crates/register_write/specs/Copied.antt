-- The text of the register that lists hold: numbers and marks in listed order, objectors and targets by place. What a line is,
-- and which lists a register makes, `register` says.
use Rattle.std.specs.Prelude.{cond, List, [], ◌∷◌, ◌++◌, ◌≡◌, ℕ, ◌≤◌, ◌<◌, eqb, get_or, length}
use Rattle.register.specs.Lines.{line_bytes, mark_byte}
use Rattle.register.specs.declared.Mark.{Mark}
use Rattle.register.specs.declared.Mark.TheVariants.{Read, Unread}
use Rattle.register.specs.declared.Line.TheVariants.{Statement, Objection}
use Rattle.register.specs.Texts.{rows_to}
use Rattle.lists.specs.declared.in_order.NumberedPairs.{NumberedPairs}

-- the mark of a number: 0 read, else unread
abbrev pub mark_of : ℕ → Mark
mark_of n = cond (eqb n 0) Read Unread

-- the line of a statement, of an objection
abbrev pub statement_bytes : (number mark : ℕ) → List ℕ
statement_bytes number mark = line_bytes (Statement (record { number = number; mark = mark_of mark }))

abbrev pub objection_bytes : (objector target : ℕ) → List ℕ
objection_bytes objector target = line_bytes (Objection (record { objector = objector; target = target }))

-- the line of the statement i, of the objection k
abbrev pub statement_text : (nums marks : List ℕ) → ℕ → List ℕ
statement_text nums marks i = statement_bytes (get_or nums i 0) (get_or marks i 0)

abbrev pub objection_text : (nums objectors targets : List ℕ) → ℕ → List ℕ
objection_text nums objectors targets k = objection_bytes (get_or nums (get_or objectors k 0) 0)
    (get_or nums (get_or targets k 0) 0)

-- all statement lines; all objection lines; the text
abbrev pub statements_text : (nums marks : List ℕ) → List ℕ
statements_text nums marks = rows_to (length nums) (statement_text nums marks)

abbrev pub objections_text : (nums objectors targets : List ℕ) → List ℕ
objections_text nums objectors targets = rows_to (length objectors) (objection_text nums objectors targets)

unfoldable pub copied : (nums marks objectors targets : List ℕ) → List ℕ
copied nums marks objectors targets = statements_text nums marks ++ objections_text nums objectors targets

-- the same of a register that is lent as one value
abbrev pub register_statements : NumberedPairs → List ℕ
register_statements r = statements_text r.numbers.now r.pairs.marks.now

abbrev pub register_objections : NumberedPairs → List ℕ
register_objections r = objections_text r.numbers.now r.pairs.objectors.now r.pairs.targets.now

abbrev pub register_objection : NumberedPairs → ℕ → List ℕ
register_objection r = objection_text r.numbers.now r.pairs.objectors.now r.pairs.targets.now

abbrev pub register_copied : NumberedPairs → List ℕ
register_copied r = copied r.numbers.now r.pairs.marks.now r.pairs.objectors.now r.pairs.targets.now

-- lists within the limits of 01, whose places are among the numbers
pub record Copyable (nums objectors targets : List ℕ) : Type 0 where
  pub few_numbers : length nums ≤ 1024
  pub few_pairs : length objectors ≤ 4096
  pub paired : length targets ≡ length objectors
  pub objector : (k : ℕ) → k < length objectors → get_or objectors k 0 < length nums
  pub target : (k : ℕ) → k < length objectors → get_or targets k 0 < length nums

-- Not for callers: what stands behind the number of a statement line.
abbrev pub mark_end : (mark : ℕ) → List ℕ
mark_end mark = 9 ∷ mark_byte (mark_of mark) ∷ 10 ∷ []
