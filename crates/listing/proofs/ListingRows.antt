-- The rows of a listing, one by one.
use mathlib.Core.List.{List, map, [], ◌∷◌, ◌++◌}
use mathlib.Core.Path.{sym, ap, ◌≡◌, ◌∙◌}
use Prim.Native.Nat.{ℕ, suc}
use lib.ListN.{length, get_or}
use Rattle.game.specs.Account.{Account}
use Rattle.register.specs.declared.StatementLine.{StatementLine}
use Rattle.register.specs.declared.ObjectionLine.{ObjectionLine}
use Rattle.register.specs.Texts.{rows_to}
use Rattle.listing.specs.Rows.{statement_row, objection_row}
use Rattle.listing.specs.Listing.{statement_rows, objection_rows}
use Rattle.register.proofs.TextRows.{no_rows, row_first}
use Rattle.game.proofs.UpTo.{up_to}

-- The rows of the lists, one by one.
pub statement_rows_lem : (S : List StatementLine) (told : ℕ → Account)
    → statement_rows S (up_to (length S) told) ≡ rows_to (length S)
    (λ i. statement_row (get_or (map (λ (st : StatementLine). st.number) S) i 0) (told i))
unfolding statement_rows
statement_rows_lem [] told = sym (no_rows (λ i. statement_row 0 (told i)))
statement_rows_lem (st ∷ S) told =
    ap (λ u. statement_row st.number (told 0) ++ u) (statement_rows_lem S (λ i. told (suc i)))
    ∙ sym (row_first (λ i. statement_row (get_or (map (λ (st : StatementLine). st.number) (st ∷ S)) i 0) (told i)) (length S))

pub objection_rows_lem : (O : List ObjectionLine) (told : ℕ → Account)
    → objection_rows O (up_to (length O) told) ≡ rows_to (length O)
    (λ k. objection_row (get_or (map (λ (o : ObjectionLine). o.objector) O) k 0)
    (get_or (map (λ (o : ObjectionLine). o.target) O) k 0) (told k))
unfolding objection_rows
objection_rows_lem [] told = sym (no_rows (λ k. objection_row 0 0 (told k)))
objection_rows_lem (o ∷ O) told =
    ap (λ u. objection_row o.objector o.target (told 0) ++ u) (objection_rows_lem O (λ k. told (suc k)))
    ∙ sym (row_first (λ k. objection_row (get_or (map (λ (o : ObjectionLine). o.objector) (o ∷ O)) k 0)
    (get_or (map (λ (o : ObjectionLine). o.target) (o ∷ O)) k 0) (told k)) (length O))
