-- The reason of a statement as it is written, byte by byte: "the statement's line of the listing, then the lines of exactly the
-- objections in its reason, in register order". What a reason is, `game` says.
use Rattle.std.specs.Prelude.{Bool, List, ◌++◌, ◌≡◌, ℕ, get_or}
use Rattle.game.specs.Account.{Account, OfStatement}
use Rattle.register.specs.Register.{Register, book, numbers}
use Rattle.reason.specs.Alone.{Chooses, keep}
use Rattle.listing.specs.Rows.{statement_row}
use Rattle.listing.specs.Listing.{ObjectionsTold, objection_rows}

-- l is the reason of the statement at the place x, as it is written
pub record IsReason (R : Register) (x : ℕ) (l : List ℕ) : Type 0 where
  pub statement : Account
  pub objections : List Account
  pub of_statement_lem : OfStatement (book R) x statement
  pub of_objections_lem : ObjectionsTold R objections
  pub inside : ℕ → Bool
  pub exactly : Chooses R x inside
  pub is : l ≡ statement_row (get_or (numbers R) x 0) statement ++ objection_rows (keep inside R.objections)
      (keep inside objections)
