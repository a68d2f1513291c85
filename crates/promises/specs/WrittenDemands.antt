-- Demands 2 and 3 of what is written byte by byte: what the rows of a listing and of a reason say, and what a sheet says. A row
-- has the word and the length of a verdict, or of a kind, and that is what the demands say it is.
use Rattle.std.specs.Prelude.{List, [], ◌++◌, ◌⊎◌, ◌≡◌, ℕ, ◌<◌, length, get_or}
use Rattle.game.specs.Label.{Verdict}
use Rattle.game.specs.Account.{verdict_account, kind_account, label_number, length_number, kind_number, kind_length}
use Rattle.game.specs.Reason.{InReason}
use Rattle.game.specs.declared.Kind.{Kind}
use Rattle.register.specs.Texts.{rows_to}
use Rattle.register.specs.Register.{Register, book, numbers, objector_numbers, target_numbers, objectors_of, targets_of}
use Rattle.listing.specs.Rows.{header, statement_row, objection_row}
use Rattle.sheet.specs.Sheet.{code_at, codes, total}
use Rattle.promises.specs.Demands.{LabelSays, LengthSays, KindSays}

-- "number, label, length": the row of the statement at the place x
pub record StatementRowSays (R : Register) (x : ℕ) (row : List ℕ) : Type 0 where
  pub verdict : Verdict
  pub is : row ≡ statement_row (get_or (numbers R) x 0) (verdict_account verdict)
  pub label_says : LabelSays (book R) x (label_number verdict)
  pub length_says : LengthSays (book R) x (length_number verdict)

-- "objector, target, kind, length": the row of the objection line k
pub record ObjectionRowSays (R : Register) (k : ℕ) (row : List ℕ) : Type 0 where
  pub kind : Kind
  pub is : row ≡ objection_row (get_or (objector_numbers R) k 0) (get_or (target_numbers R) k 0) (kind_account kind)
  pub kind_says : KindSays (book R) (get_or (objectors_of R) k 0) (get_or (targets_of R) k 0) (kind_number kind)
      (kind_length kind)

-- "Header: the word, statements, objections." Then the rows of all statements, and of all objections.
pub record ListingSays (R : Register) (listing : List ℕ) : Type 0 where
  pub statements : ℕ → List ℕ
  pub objections : ℕ → List ℕ
  pub is : listing ≡ header (length R.statements) (length R.objections) ++
      (rows_to (length R.statements) statements ++ rows_to (length R.objections) objections)
  pub statement_says : (x : ℕ) → x < length R.statements → StatementRowSays R x (statements x)
  pub objection_says : (k : ℕ) → k < length R.objections → ObjectionRowSays R k (objections k)

-- "the statement's line of the listing, then the lines of exactly the objections in its reason, in register order"
pub record ReasonSays (R : Register) (x : ℕ) (reason : List ℕ) : Type 0 where
  pub statement : List ℕ
  pub objections : ℕ → List ℕ
  pub is : reason ≡ statement ++ rows_to (length R.objections) objections
  pub statement_says : StatementRowSays R x statement
  pub exactly : (k : ℕ) → k < length R.objections
      → (InReason (book R) x (get_or (objectors_of R) k 0) (get_or (targets_of R) k 0) × ObjectionRowSays R k (objections k))
      ⊎ ((¬ InReason (book R) x (get_or (objectors_of R) k 0) (get_or (targets_of R) k 0)) × (objections k ≡ []))

-- the codes of a sheet are labels, and a total beside it counts the statements of its code
pub record SheetSays (R : Register) (sheet totals : List ℕ) : Type 0 where
  pub label_says : (x : ℕ) → x < length R.statements → LabelSays (book R) x (code_at sheet x)
  pub counts : (c : ℕ) → c < codes → get_or totals c 0 ≡ total sheet (length R.statements) c
