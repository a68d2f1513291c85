-- What the code promises of rows, not for callers of the product: the row of a statement and of an objection by the numbers of
-- labels and lengths, and the lists that they are taken from.
use Rattle.std.specs.Prelude.{List, ◌≡◌, ℕ, ◌≤◌, get_or, length}
use Rattle.game.specs.Book.{book_of}
use Rattle.game.specs.Label.{Verdict}
use Rattle.game.specs.Account.{Account, verdict_account, kind_account}
use Rattle.game.specs.Objection.{kind_of}
use Rattle.game.proofs.Objection.{or_idle}
use Rattle.game.specs.declared.Kind.{Kind}
use Rattle.lists.specs.Handed.{Handed}
use Rattle.label_solve.specs.Labelled.{Labelled}
use Rattle.listing.specs.Rows.{statement_row, objection_row}
use Rattle.listing_row.specs.Said.{said}

abbrev pub verdict_at : (labels lengths : List ℕ) → ℕ → Verdict
verdict_at labels lengths x = said (get_or labels x 0) (get_or lengths x 0)

abbrev pub kind_at : (objectors targets labels lengths : List ℕ) → ℕ → Kind
kind_at objectors targets labels lengths k =
    or_idle (kind_of (verdict_at labels lengths (get_or targets k 0)) (verdict_at labels lengths (get_or objectors k 0)))

-- what is told of the statement at a place, and of the entry k
abbrev pub statement_told_at : (labels lengths : List ℕ) → ℕ → Account
statement_told_at labels lengths x = verdict_account (verdict_at labels lengths x)

abbrev pub objection_told_at : (objectors targets labels lengths : List ℕ) → ℕ → Account
objection_told_at objectors targets labels lengths k = kind_account (kind_at objectors targets labels lengths k)

abbrev pub statement_row_at : (nums labels lengths : List ℕ) → ℕ → List ℕ
statement_row_at nums labels lengths i = statement_row (get_or nums i 0) (statement_told_at labels lengths i)

abbrev pub objection_row_at : (nums objectors targets labels lengths : List ℕ) → ℕ → List ℕ
objection_row_at nums objectors targets labels lengths k =
    objection_row (get_or nums (get_or objectors k 0) 0) (get_or nums (get_or targets k 0) 0)
    (objection_told_at objectors targets labels lengths k)

-- the lists are in order, belong together, and have the labels and lengths of their book
pub record Listable (nums marks objectors targets labels lengths : List ℕ) : Type 0 where
  pub handed : Handed marks objectors targets
  pub numbered : length nums ≡ length marks
  pub labels_room : length marks ≤ length labels
  pub lengths_room : length marks ≤ length lengths
  pub labelled : Labelled (book_of marks objectors targets) labels lengths
