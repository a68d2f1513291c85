-- The rows that the code puts together are the reason.
use mathlib.Core.Bool.{cond}
use mathlib.Core.List.{List, [], ◌++◌}
use mathlib.Core.Path.{ap, ap₂, sym, ◌≡◌, ◌∙◌}
use Prim.Native.Nat.{ℕ, ◌<◌}
use native.Mathlib.Omega.{arith}
use lib.ListN.{length}
use Rattle.game.specs.Account.{Account}
use Rattle.reason_find.specs.Ticks.{Chosen}
use Rattle.register.specs.Register.{Register, objectors_of, targets_of, numbers}
use Rattle.register.proofs.Order.{objectors_counted, numbers_counted}
use Rattle.reason.specs.Alone.{keep}
use Rattle.answer.proofs.Promises.{through}
use Rattle.register_solve.specs.SolvedAs.{ReadyAs}
use Rattle.register_solve.specs.declared.labelled_register.LabelledRegister.{LabelledRegister}
use Rattle.register.specs.Texts.{rows_to}
use Rattle.listing.specs.Listing.{objection_rows}
use Rattle.listing_row.specs.RegisterRows.{entry_row}
use Rattle.listing_row.specs.RowsAt.{statement_told_at, objection_told_at, statement_row_at, objection_row_at}
use Rattle.register.proofs.TextRows.{rows_same}
use Rattle.game.proofs.UpTo.{up_to}
use Rattle.listing_row.proofs.RowTold.{own_row, own_statement, own_objections}
use Rattle.reason.specs.Reasons.{IsReason}
use Rattle.call_reason.specs.ReasonRows.{reason_rows, chosen_part, has_tick, chosen_at}
use Rattle.reason.proofs.KeepRows.{row_if, keep_rows}
use Rattle.call_reason.proofs.ReasonRows.{has_tick_lem}

module _ (R : Register) (r : LabelledRegister) (ready : ReadyAs R r) (x : ℕ) (inside : List ℕ) where
  abbrev labels : List ℕ
  labels = r.labelled.labels.now

  abbrev lengths : List ℕ
  lengths = r.labelled.lengths.now

  abbrev objection : ℕ → Account
  objection = objection_told_at (objectors_of R) (targets_of R) labels lengths

  -- the lists are the register's own
  own_entry : (k : ℕ) → entry_row r k ≡ objection_row_at (numbers R) (objectors_of R) (targets_of R) labels lengths k
  own_entry k =
      ap (λ u. objection_row_at u r.labelled.pairs.objectors.now r.labelled.pairs.targets.now labels lengths k)
      ready.made.numbers_are
      ∙ ap₂ (λ y x. objection_row_at (numbers R) y x labels lengths k) ready.made.objectors_are ready.made.targets_are

  counted : length r.labelled.pairs.objectors.now ≡ length R.objections
  counted = ap length ready.made.objectors_are ∙ objectors_counted R ready.made.valid

  rows_are : chosen_part r inside ≡ objection_rows (keep (has_tick inside) R.objections)
      (keep (has_tick inside) (up_to (length R.objections) objection))
  unfolding chosen_part
  rows_are =
      ap (λ m. rows_to m (chosen_at r inside)) counted
      ∙ rows_same (length R.objections) (chosen_at r inside) (row_if (has_tick inside) R.objections objection)
      (λ k h. ap (λ u. cond (has_tick inside k) u []) (own_entry k ∙ own_row R _ _ _ _ _ _ ready k h))
      ∙ sym (keep_rows (has_tick inside) R.objections objection)

  pub ready_reason : x < length r.numbers.now
      → Chosen r.labelled.pairs.marks.now r.labelled.pairs.objectors.now r.labelled.pairs.targets.now x inside
      → IsReason R x (reason_rows r inside x)
  ready_reason l chosen = record {
    statement = statement_told_at labels lengths x;
    objections = up_to (length R.objections) objection;
    of_statement_lem = own_statement R _ _ _ _ _ _ ready x (omega (arith, ap length ready.made.numbers_are, numbers_counted R));
    of_objections_lem = own_objections R _ _ _ _ _ _ ready;
    inside = has_tick inside;
    exactly = λ k h. through (has_tick_lem inside k)
        ((rw (ready.made.marks_are, ready.made.objectors_are, ready.made.targets_are) at chosen) k
        (omega (arith, objectors_counted R ready.made.valid)));
    is = ap₂ (λ (u v : List ℕ). u ++ v) (ap (λ u. statement_row_at u labels lengths x) ready.made.numbers_are) rows_are;
  }
