-- What the code promises of a listing, not for callers of the product: its parts, by the numbers of labels and lengths.
use Rattle.std.specs.Prelude.{List, ◌++◌, ℕ, length}
use Rattle.register.specs.Texts.{rows_to}
use Rattle.listing.specs.Rows.{header}
use Rattle.register_solve.specs.declared.labelled_register.LabelledRegister.{LabelledRegister}
use Rattle.listing_row.specs.RowsAt.{statement_row_at, objection_row_at}

-- all rows of the statements; of the objections; the listing
unfoldable pub statement_part : (nums labels lengths : List ℕ) → List ℕ
statement_part nums labels lengths = rows_to (length nums) (statement_row_at nums labels lengths)

unfoldable pub objection_part : (nums objectors targets labels lengths : List ℕ) → List ℕ
objection_part nums objectors targets labels lengths =
    rows_to (length objectors) (objection_row_at nums objectors targets labels lengths)

unfoldable pub whole : (nums objectors targets labels lengths : List ℕ) → List ℕ
whole nums objectors targets labels lengths =
    header (length nums) (length objectors) ++
    (statement_part nums labels lengths ++ objection_part nums objectors targets labels lengths)

-- the same of a register that is lent as one value
abbrev pub statements_of : LabelledRegister → List ℕ
statements_of r = statement_part r.numbers.now r.labelled.labels.now r.labelled.lengths.now

abbrev pub objections_of : LabelledRegister → List ℕ
objections_of r = objection_part r.numbers.now r.labelled.pairs.objectors.now r.labelled.pairs.targets.now r.labelled.labels.now
    r.labelled.lengths.now

abbrev pub listing_of : LabelledRegister → List ℕ
listing_of r = whole r.numbers.now r.labelled.pairs.objectors.now r.labelled.pairs.targets.now r.labelled.labels.now
    r.labelled.lengths.now
