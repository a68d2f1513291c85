-- What the code promises of a reason, not for callers of the product: the rows of the objections that have a tick, by the numbers
-- of labels and lengths, and the promise of one register.
use Rattle.std.specs.Prelude.{Bool, not, cond, List, [], ◌++◌, ℕ, ◌<◌, get_or, length, eqb}
use Rattle.register.specs.Register.{Register}
use Rattle.answer.specs.Answer.{Promised, Short, Written}
use Rattle.answer.specs.Answer.{Answer}
use Rattle.register.specs.Texts.{rows_to}
use Rattle.register_solve.specs.declared.labelled_register.LabelledRegister.{LabelledRegister}
use Rattle.listing_row.specs.RegisterRows.{place_row, entry_row}
use Rattle.promises.specs.ReasonCalls.{ReasonRefused, ReasonIn}

-- Not for callers: the same of one register.
abbrev pub ReasonWritten : Register → (number : ℕ) → List ℕ → Answer → List ℕ → Type 0
ReasonWritten R number room a after = Promised (ReasonRefused R number room) (ReasonIn R number room) room a after

-- whether the objection k has a tick
abbrev pub has_tick : List ℕ → ℕ → Bool
has_tick inside k = not (eqb (get_or inside k 0) 0)

module _ (r : LabelledRegister) (inside : List ℕ) where
  -- its row if it has, else nothing
  abbrev pub chosen_at : ℕ → List ℕ
  chosen_at k = cond (has_tick inside k) (entry_row r k) []

  -- the rows of all that have
  unfoldable pub chosen_part : List ℕ
  chosen_part = rows_to (length r.labelled.pairs.objectors.now) chosen_at

  -- the row of the statement at the place x, and those rows
  abbrev pub reason_rows : ℕ → List ℕ
  reason_rows x = place_row r x ++ chosen_part

  -- they are written, or there is too little room for them
  abbrev pub RowsWritten : ℕ → List ℕ → Answer → List ℕ → Type 0
  RowsWritten x room =
      Promised (Short (length room < length (reason_rows x))) (Written (reason_rows x) room) room
