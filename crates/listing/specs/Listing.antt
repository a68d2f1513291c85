-- The listing of a register, byte by byte, from what is told of its statements and of its objections: "Header: the word,
-- statements, objections. Then number, label, length, in listed order. Then objector, target, kind, length, in the order of the
-- lines." No other listing is right: `IsListing` is all that a reader has to believe.
use Rattle.std.specs.Prelude.{List, [], ◌∷◌, ◌++◌, ◌≡◌, ℕ, ◌<◌, length, get_or}
use Rattle.game.specs.Account.{Account, OfStatement, OfObjection, untold}
use Rattle.register.specs.declared.StatementLine.{StatementLine}
use Rattle.register.specs.declared.ObjectionLine.{ObjectionLine}
use Rattle.register.specs.Register.{Register, book, objectors_of, targets_of}
use Rattle.listing.specs.Rows.{statement_row, objection_row, header}

-- the rows of the statements and of the objections with what is told of each, in order
unfoldable pub statement_rows : List StatementLine → List Account → List ℕ
statement_rows [] told = []
statement_rows (st ∷ sts) [] = []
statement_rows (st ∷ sts) (a ∷ told) = statement_row st.number a ++ statement_rows sts told

unfoldable pub objection_rows : List ObjectionLine → List Account → List ℕ
objection_rows [] told = []
objection_rows (o ∷ os) [] = []
objection_rows (o ∷ os) (a ∷ told) = objection_row o.objector o.target a ++ objection_rows os told

abbrev pub listing : Register → (statements objections : List Account) → List ℕ
listing R statements objections =
    header (length R.statements) (length R.objections) ++
    (statement_rows R.statements statements ++ objection_rows R.objections objections)

-- one account for each objection of the register, what is told of it
pub record ObjectionsTold (R : Register) (told : List Account) : Type 0 where
  pub each : length told ≡ length R.objections
  pub is : (k : ℕ) → k < length R.objections
      → OfObjection (book R) (get_or (objectors_of R) k 0) (get_or (targets_of R) k 0) (get_or told k untold)

-- l is the listing of the register: that of what is told of its own statements and objections
pub record IsListing (R : Register) (l : List ℕ) : Type 0 where
  pub statements : List Account
  pub objections : List Account
  pub statement_each : length statements ≡ length R.statements
  pub of_statement_lem : (x : ℕ) → x < length R.statements → OfStatement (book R) x (get_or statements x untold)
  pub of_objections_lem : ObjectionsTold R objections
  pub is : l ≡ listing R statements objections
