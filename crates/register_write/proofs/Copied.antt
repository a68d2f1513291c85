-- The text of the lists that a register makes is the written register, and such lists can be copied; how long the text is, and
-- that it is put part by part.
use mathlib.Core.List.{List, map, [], ◌∷◌, ◌++◌}
use mathlib.Core.Path.{ap₂, refl, ap, sym, ◌≡◌, ◌∙◌}
use Prim.Native.Nat.{ℕ, ◌+◌, ◌*◌, ◌≤◌, ◌<◌}
use native.Mathlib.Omega.{arith}
use lib.ListN.{length, get_or, length-append, drop, length-map}
use Rattle.register.specs.Lines.{mark_number, line_bytes}
use Rattle.register.specs.declared.Mark.{Mark}
use Rattle.register.specs.declared.Mark.TheVariants.{Read, Unread}
use Rattle.register.specs.declared.StatementLine.{StatementLine}
use Rattle.register.specs.declared.ObjectionLine.{ObjectionLine}
use Rattle.register.specs.declared.Line.TheVariants.{Statement, Objection}
use Rattle.register.specs.Register.{bytes, Register, numbers, objectors_of, targets_of, objector_numbers, target_numbers}
use Rattle.register.specs.Register.{marks_of}
use Rattle.register.specs.Register.{written}
use Rattle.register_read.specs.ReadState.{Made}
use Rattle.lists.specs.Handed.{Handed}
use Rattle.lists.specs.declared.in_order.NumberedPairs.{NumberedPairs}
use Rattle.register.proofs.Order.{number_there, numbers_counted, objectors_counted, register_in_order, marks_counted}
use Rattle.register.proofs.OneMore.{bytes_append}
use Rattle.register.specs.Texts.{rows_to}
use Rattle.room_write.specs.Writing.{Put, RoomFor}
use Rattle.register_write.specs.Copied.{statement_text, objection_text, objection_bytes, copied, statements_text}
use Rattle.register_write.specs.Copied.{objections_text, mark_of, statement_bytes, Copyable}
use Rattle.register.proofs.TextRows.{rows_small, no_rows, row_first, rows_same, rows_longer}
use Rattle.register.proofs.Number.{number_small}
use Rattle.room_write.proofs.Writing.{put_start, put_behind}
use Rattle.register_write.proofs.PutLines.{statement_small, objection_small, objection_length, statement_length}

-- The parts are not long, and the text is one behind the other.
module _ (nums : List ℕ) where
  pub statements_small : (marks : List ℕ) (n : ℕ) → length (rows_to n (statement_text nums marks)) ≤ 34 * n
  statements_small marks =
      rows_small (statement_text nums marks) 34 (λ i. statement_small (get_or nums i 0) (get_or marks i 0))

  module _ (objectors targets : List ℕ) where
    pub objections_small : (m : ℕ) → length (rows_to m (objection_text nums objectors targets)) ≤ 34 * m
    objections_small =
        rows_small (objection_text nums objectors targets) 34
        (λ k. objection_small (get_or nums (get_or objectors k 0) 0) (get_or nums (get_or targets k 0) 0))

    pub copied_length : (marks : List ℕ) → length (copied nums marks objectors targets) ≡ length (statements_text nums marks) +
        length (objections_text nums objectors targets)
    unfolding copied
    copied_length marks = simp length-append (omega arith)

    pub copied_put : (marks room : List ℕ) {e₁ e₂ : ℕ} {r₁ r₂ : List ℕ}
        → length (copied nums marks objectors targets) ≤ length room → Put room 0 (statements_text nums marks) e₁ r₁
        → Put r₁ e₁ (objections_text nums objectors targets) e₂ r₂ → r₂ ≡ copied nums marks objectors targets ++ drop
        (length (copied nums marks objectors targets)) room
    unfolding copied
    copied_put marks room h a b =
        let first = statements_text nums marks in
        let then = objections_text nums objectors targets in
        let fits : RoomFor room 0 (first ++ then) = omega (arith, h, copied_length marks, length-append first then) in
        (put_start room (copied nums marks objectors targets) (put_behind room 0 first then fits a b)).1

-- Lists in order, with a number for each mark, can be copied; so can a register that is lent as one value.
pub handed_copyable : {nums marks objectors targets : List ℕ} → length nums ≡ length marks → Handed marks objectors targets
    → Copyable nums objectors targets
handed_copyable numbered handed = record {
  few_numbers = omega (arith, numbered, handed.few_marks);
  few_pairs = handed.few_pairs;
  paired = handed.order.paired;
  objector = λ k h. omega (arith, handed.order.objector k h, numbered);
  target = λ k h. omega (arith, handed.order.target k h, numbered);
}

pub numbered_copyable : (r : NumberedPairs) → Copyable r.numbers.now r.pairs.objectors.now r.pairs.targets.now
numbered_copyable r = handed_copyable r.numbered r.pairs.handed

-- The lines of a register, one by one.
pub mark_back : (m : Mark) → mark_of (mark_number m) ≡ m
mark_back Read = refl
mark_back Unread = refl

-- by the numbers and marks of statement lines; by the numbers of objection lines
abbrev of_statements : List StatementLine → ℕ → List ℕ
of_statements S i =
    statement_bytes (get_or (map (λ (st : StatementLine). st.number) S) i 0)
    (get_or (map (λ (st : StatementLine). mark_number st.mark) S) i 0)

abbrev of_objections : List ObjectionLine → ℕ → List ℕ
of_objections O k =
    objection_bytes (get_or (map (λ (o : ObjectionLine). o.objector) O) k 0)
    (get_or (map (λ (o : ObjectionLine). o.target) O) k 0)

statement_lines : (S : List StatementLine) → rows_to (length S) (of_statements S) ≡ bytes (map Statement S)
unfolding bytes
statement_lines [] = no_rows (of_statements [])
statement_lines (st ∷ S) =
    row_first (of_statements (st ∷ S)) (length S)
    ∙ ap₂ (λ u v. u ++ v)
    (ap (λ (m : Mark). line_bytes (Statement (record { number = st.number; mark = m }))) (mark_back st.mark))
    (statement_lines S)

objection_lines : (O : List ObjectionLine) → rows_to (length O) (of_objections O) ≡ bytes (map Objection O)
unfolding bytes
objection_lines [] = no_rows (of_objections [])
objection_lines (o ∷ O) =
    row_first (of_objections (o ∷ O)) (length O) ∙ ap (λ u. line_bytes (Objection o) ++ u) (objection_lines O)

module _ (R : Register) where
  -- the numbers at the places of the ends of an objection are those on its line
  own_line : (nums marks objectors targets : List ℕ) → Made R nums marks objectors targets → (k : ℕ)
      → k < length R.objections
      → objection_text (numbers R) (objectors_of R) (targets_of R) k ≡ of_objections R.objections k
  own_line nums marks objectors targets made k h =
      ap₂ objection_bytes
      (number_there R (objector_numbers R) k (omega (arith, length-map R.objections (λ (o : ObjectionLine). o.objector)))
      (made.valid.known k h).0)
      (number_there R (target_numbers R) k (omega (arith, length-map R.objections (λ (o : ObjectionLine). o.target)))
      (made.valid.known k h).1)

  own_copied : (nums marks objectors targets : List ℕ) → Made R nums marks objectors targets
      → copied (numbers R) (marks_of R) (objectors_of R) (targets_of R) ≡ written R
  unfolding copied
  own_copied nums marks objectors targets made =
      ap₂ (λ u v. u ++ v)
      (ap (λ n. rows_to n (statement_text (numbers R) (marks_of R))) (numbers_counted R) ∙ statement_lines R.statements)
      (ap (λ m. rows_to m (objection_text (numbers R) (objectors_of R) (targets_of R))) (objectors_counted R made.valid)
      ∙ rows_same (length R.objections) (objection_text (numbers R) (objectors_of R) (targets_of R))
      (of_objections R.objections) (own_line nums marks objectors targets made)
      ∙ objection_lines R.objections)
      ∙ sym (bytes_append (map Statement R.statements) (map Objection R.objections))

  -- what was read of a register is written back as its text
  pub copied_written : (nums marks objectors targets : List ℕ) → Made R nums marks objectors targets
      → copied nums marks objectors targets ≡ written R
  copied_written nums marks objectors targets made =
      rw (made.numbers_are, made.marks_are, made.objectors_are, made.targets_are)
      (own_copied nums marks objectors targets made)

  -- what was read of a register is in order, and can be copied
  pub made_handed : (nums marks objectors targets : List ℕ) → Made R nums marks objectors targets
      → Handed marks objectors targets
  made_handed nums marks objectors targets made =
      rw (made.marks_are, made.objectors_are, made.targets_are) (record {
        few_marks = omega (arith, marks_counted R made.valid, made.valid.few_statements);
        few_pairs = omega (arith, objectors_counted R made.valid, made.valid.few_objections);
        order = register_in_order R made.valid;
      })

  -- a mark for each number, and what is told as the size of the copy is that of the text
  pub made_paired : (nums marks objectors targets : List ℕ) → Made R nums marks objectors targets → length marks ≡ length nums
  made_paired nums marks objectors targets made =
      ap length made.marks_are ∙ marks_counted R made.valid ∙ sym (numbers_counted R) ∙ sym (ap length made.numbers_are)

  pub made_copyable : (nums marks objectors targets : List ℕ) → Made R nums marks objectors targets
      → Copyable nums objectors targets
  made_copyable nums marks objectors targets made =
      handed_copyable (sym (made_paired nums marks objectors targets made)) (made_handed nums marks objectors targets made)

  pub made_size : (nums marks objectors targets : List ℕ) → Made R nums marks objectors targets → (size : ℕ)
      → ((marks : List ℕ) → size ≡ length (copied nums marks objectors targets)) → size ≡ length (written R)
  made_size nums marks objectors targets made size is =
      is marks ∙ ap length (copied_written nums marks objectors targets made)

-- what the sizes are added up by
pub ruleset sizes = (
  number_small,
  statement_length,
  objection_length,
  no_rows,
  rows_longer,
  statements_small,
  objections_small,
  copied_length,
)
