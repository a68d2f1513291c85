-- The parts by the numbers of labels and lengths are, together, the register's listing.
use mathlib.Core.List.{List, ◌++◌}
use mathlib.Core.Path.{ap, sym, ap₂, ◌≡◌, ◌∙◌}
use Prim.Native.Nat.{ℕ}
use lib.ListN.{length, get_or}
use Rattle.game.specs.Account.{Account, untold}
use Rattle.register.specs.Register.{Register, numbers, objectors_of, targets_of, objector_numbers, target_numbers}
use Rattle.register.proofs.Order.{numbers_counted, objectors_counted}
use Rattle.register_solve.specs.SolvedText.{Ready}
use Rattle.register.specs.Texts.{rows_to}
use Rattle.listing.specs.Rows.{objection_row, header}
use Rattle.listing.specs.Listing.{statement_rows, objection_rows, listing, IsListing}
use Rattle.listing_row.specs.RowsAt.{statement_told_at, objection_told_at, statement_row_at, objection_row_at}
use Rattle.listing_write.specs.ListingParts.{statement_part, objection_part, whole}
use Rattle.register.proofs.TextRows.{rows_same}
use Rattle.game.proofs.UpTo.{up_to, length_up_to, get_or_up_to}
use Rattle.listing.proofs.ListingRows.{statement_rows_lem, objection_rows_lem}
use Rattle.listing_row.proofs.RowTold.{own_row, own_statement, own_objections}

module _ (R : Register) (nums marks objectors targets labels lengths : List ℕ)
    (ready : Ready R nums marks objectors targets labels lengths) where
  abbrev statement : ℕ → Account
  statement = statement_told_at labels lengths

  abbrev objection : ℕ → Account
  objection = objection_told_at (objectors_of R) (targets_of R) labels lengths

  statements_same : statement_part (numbers R) labels lengths ≡ statement_rows R.statements
      (up_to (length R.statements) statement)
  unfolding statement_part
  statements_same =
      ap (λ n. rows_to n (statement_row_at (numbers R) labels lengths)) (numbers_counted R) ∙ sym
      (statement_rows_lem R.statements statement)

  objections_same : objection_part (numbers R) (objectors_of R) (targets_of R) labels lengths ≡ objection_rows R.objections
      (up_to (length R.objections) objection)
  unfolding objection_part
  objections_same =
      ap (λ m. rows_to m (objection_row_at (numbers R) (objectors_of R) (targets_of R) labels lengths))
      (objectors_counted R ready.made.valid)
      ∙ rows_same (length R.objections) (objection_row_at (numbers R) (objectors_of R) (targets_of R) labels lengths)
      (λ k. objection_row (get_or (objector_numbers R) k 0) (get_or (target_numbers R) k 0) (objection k))
      (own_row R nums marks objectors targets labels lengths ready)
      ∙ sym (objection_rows_lem R.objections objection)

  whole_same : whole (numbers R) (objectors_of R) (targets_of R) labels lengths ≡ listing R
      (up_to (length R.statements) statement)
      (up_to (length R.objections) objection)
  unfolding whole
  whole_same =
      ap₂ (λ a b. a ++ b) (ap₂ header (numbers_counted R) (objectors_counted R ready.made.valid))
      (ap₂ (λ a b. a ++ b) statements_same objections_same)

  own_listing : IsListing R (whole (numbers R) (objectors_of R) (targets_of R) labels lengths)
  own_listing = record {
    statements = up_to (length R.statements) statement;
    objections = up_to (length R.objections) objection;
    statement_each = length_up_to (length R.statements) statement;
    of_statement_lem = λ x h. rw (get_or_up_to (length R.statements) statement untold x h)
        (own_statement R nums marks objectors targets labels lengths ready x h);
    of_objections_lem = own_objections R nums marks objectors targets labels lengths ready;
    is = whole_same;
  }

  pub ready_listing : IsListing R (whole nums objectors targets labels lengths)
  ready_listing = rw (ready.made.numbers_are, ready.made.objectors_are, ready.made.targets_are) own_listing
