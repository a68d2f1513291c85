-- What is mended of the texts at the limits with one line more: by the law of a full register, and what the register of such a
-- text is.
use mathlib.Core.List.{map, ◌++◌}
use mathlib.Core.Path.{refl, ap, ap₂, sym, subst, ◌≡◌, ◌∙◌}
use Prim.Native.Nat.{ℕ, suc, ◌+◌, ◌<◌, ◌/◌, ◌%◌}
use native.Mathlib.Decide.{ℕ_discrete}
use native.Mathlib.Omega.{arith}
use borrow.Author.Tests.{eq-eqb, ne_eqb}
use Rattle.game.proofs.UpTo.{up_to, length_up_to}
use Rattle.register.specs.Texts.{decimal, decimal_in, rows_to}
use Rattle.register.specs.Number.{number_bytes}
use Rattle.register.proofs.Number.{plain_number}
use Rattle.register.specs.Lines.{line_bytes, WellFormed}
use Rattle.register.specs.declared.StatementLine.{StatementLine}
use Rattle.register.specs.declared.ObjectionLine.{ObjectionLine}
use Rattle.register.specs.declared.Line.TheVariants.{Statement, Objection}
use Rattle.register.specs.Register.{Valid, Issued, Has, bytes, written}
use Rattle.register.proofs.OneMore.{bytes_append}
use Rattle.mend.specs.Mended.{unread, unread_if}
use Rattle.mend.specs.TextLines.{LinesOf}
use Rattle.mend.specs.Fate.{dropped, objection_limit}
use Rattle.mend.specs.Report.{row_of, report_row}
use Rattle.mend.proofs.PastLimit.{with_line, lines_more, statement_past, objection_past}
use Rattle.promises.specs.Programs.{Mends, with_report}
use Rattle.examples.specs.Table.{ascii}
use Rattle.examples.specs.Limits.{text_of, statement_at, objection_at}
use Rattle.examples.specs.MendTable.{MendLimits, marked_at}
use Rattle.examples.proofs.Limits.{R, text_written, count_statements, count_objections, number_at, objector_at, target_at}
use Rattle.examples.proofs.Limits.{count_numbers, on_register_lem, register_valid, more_fits, line_short, rows_bytes, map_up_to}
use Rattle.examples.proofs.Limits.{among}

-- a full text of n statements
module _ (n : ℕ) (full : n ≡ 1024) where
  valid : Valid (R n 0)
  valid = register_valid n 0 (omega (arith, full)) (omega arith) (λ i h. absurd (omega (arith, h)))

  past_statements : (st : StatementLine) → WellFormed (Statement st) → 1024 < st.number
      → Mends (text_of n 0 ++ line_bytes (Statement st)) (with_report (text_of n 0) (ascii "1025\tdropped\t6\n"))
  unfolding R ascii report_row decimal decimal_in
  past_statements st w new =
      let (m, r) = statement_past (up_to n statement_at) st valid (length_up_to n statement_at ∙ full) absent in (
        more_fits n 0 (omega (arith, full)) (omega arith) (λ i h. absurd (omega (arith, h))) (Statement st)
            (line_short (Statement st) w),
        (
          with_line (R n 0) (Statement st),
          subst (λ s. LinesOf (s ++ line_bytes (Statement st)) (with_line (R n 0) (Statement st))) (sym (text_written n 0))
              (lines_more (R n 0) valid (Statement st) w),
          text_written n 0 ∙ ap written (sym m),
          sym r,
        ),
      )
    where
      absent : ¬ Issued (R n 0) st.number
      absent (i, h, e) = let l : i < n = omega (arith, h, count_numbers n 0) in omega (arith, full, e, number_at n 0 i l, l)

-- a full text of n objections among 65 statements
module _ (n : ℕ) (full : n ≡ 4096) where
  within : (i : ℕ) → i < n → (i / 65 < 65) × (i % 65 < 65)
  within i h = among i (omega (arith, full))

  in_order : Valid (R 65 n)
  in_order = register_valid 65 n (omega arith) (omega (arith, full)) within

  abbrev next : ObjectionLine
  next = record { objector = 64; target = 2 }

  -- what is printed: 2 is marked
  marked_text : rows_to 65 (λ i. line_bytes (Statement (marked_at i))) ++ rows_to n (λ i. line_bytes (Objection (objection_at i)))
      ≡ written (unread 2 (R 65 n))
  unfolding R
  marked_text = ap₂ (λ u v. u ++ v) (statements 65) objections
      ∙ sym (bytes_append (map Statement (map (unread_if 2) (up_to 65 statement_at))) (map Objection (up_to n objection_at)))
    where
      objections : rows_to n (λ i. line_bytes (Objection (objection_at i))) ≡ bytes (map Objection (up_to n objection_at))
      objections = rows_bytes n (λ i. Objection (objection_at i)) ∙ ap bytes (sym (map_up_to Objection n objection_at))

      mark : (i : ℕ) → marked_at i ≡ unread_if 2 (statement_at i)
      mark i = go (ℕ_discrete i 1)
        where
          go : Dec (i ≡ 1) → marked_at i ≡ unread_if 2 (statement_at i)
          go (yes e) = rw (eq-eqb i 1 e, eq-eqb (suc i) 2 (ap suc e)) refl
          go (no e) = rw (ne_eqb i 1 e, ne_eqb (suc i) 2 (λ q. e (omega (arith, q)))) refl

      statements : (k : ℕ) → rows_to k (λ i. line_bytes (Statement (marked_at i)))
          ≡ bytes (map Statement (map (unread_if 2) (up_to k statement_at)))
      statements k =
          rows_bytes k (λ i. Statement (marked_at i))
          ∙ ap bytes (ap (λ (f : ℕ → StatementLine). up_to k (λ i. Statement (f i))) (λ j i. mark i j)
          ∙ sym (ap (map Statement) (map_up_to (unread_if 2) k statement_at)
          ∙ map_up_to Statement k (λ i. unread_if 2 (statement_at i))))

  past_objections : Mends (text_of 65 n ++ ascii "O\t64\t2\n") (with_report
      (rows_to 65 (λ i. line_bytes (Statement (marked_at i))) ++ rows_to n (λ i. line_bytes (Objection (objection_at i))))
      (ascii "4162\tdropped\t9\n"))
  unfolding ascii report_row decimal decimal_in number_bytes
  past_objections =
      let w : WellFormed (Objection next) =
      (plain_number 64 (omega arith) (omega arith), plain_number 2 (omega arith) (omega arith)) in
      let (m, r) = objection_past (R 65 n) next in_order (count_objections 65 n ∙ full) (
        on_register_lem 65 n 63 (omega arith),
        on_register_lem 65 n 1 (omega arith),
      ) absent in (
        more_fits 65 n (omega arith) (omega (arith, full)) within (Objection next) (line_short (Objection next) w),
        (
          with_line (R 65 n) (Objection next),
          subst (λ s. LinesOf (s ++ line_bytes (Objection next)) (with_line (R 65 n) (Objection next))) (sym (text_written 65 n))
              (lines_more (R 65 n) in_order (Objection next) w),
          marked_text ∙ ap written (sym m),
          sym (r ∙ ap (λ k. row_of (suc (k + 4096)) (dropped objection_limit)) (count_statements 65 n)),
        ),
      )
    where
      absent : ¬ Has (R 65 n) 64 2
      absent (k, h, y, x) =
          let l : k < n = omega (arith, h, count_objections 65 n) in
          let q : k / 65 ≡ 63 = omega (arith, objector_at 65 n k l, y) in
          let p : k % 65 ≡ 1 = omega (arith, target_at 65 n k l, x) in
          omega (arith, l, full, q, p)

pub mend_limits_hold : MendLimits
mend_limits_hold = record { past_statements = past_statements 1024 refl; past_objections = past_objections 4096 refl }
