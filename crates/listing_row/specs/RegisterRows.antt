-- Not for callers of the product: what is said of a register that is lent with its labels as one value.
use Rattle.std.specs.Prelude.{List, ℕ}
use Rattle.register_solve.specs.declared.labelled_register.LabelledRegister.{LabelledRegister}
use Rattle.listing_row.specs.RowsAt.{statement_row_at, objection_row_at}

-- the row of the statement at the place x, and of the entry k
abbrev pub place_row : LabelledRegister → ℕ → List ℕ
place_row r = statement_row_at r.numbers.now r.labelled.labels.now r.labelled.lengths.now

abbrev pub entry_row : LabelledRegister → ℕ → List ℕ
entry_row r = objection_row_at r.numbers.now r.labelled.pairs.objectors.now r.labelled.pairs.targets.now r.labelled.labels.now
    r.labelled.lengths.now
