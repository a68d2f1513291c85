-- The rows of numbered fates: the pieces of a row and how long it is, one row after the other, and that they are the report of
-- the fates whose numbers these are.
use mathlib.Core.Bool.{Bool, cond, true, false}
use mathlib.Core.List.{List, map, [], ◌∷◌, ◌++◌}
use mathlib.Core.Path.{refl, ap, ◌≡◌, ◌∙◌}
use Prim.Native.Nat.{ℕ, suc, ◌+◌, ◌*◌, ◌≤◌}
use native.Mathlib.Numerals.{add-one}
use native.Mathlib.Omega.{arith}
use lib.Dec.{eqb}
use lib.ListN.{length, get_or, length-append, length-map, get_or-map}
use borrow.Author.Tests.{eq-eqb, ne_eqb}
use Rattle.register.specs.Texts.{rows_to, decimal}
use Rattle.register.proofs.Digits.{ten_digits}
use Rattle.register.proofs.TextRows.{no_rows, rows_longer, rows_small, rows_same}
use Rattle.mend.specs.Fate.{Fate, kept, moved, dropped, unended_line, spoiled_line, second_statement, statement_limit}
use Rattle.mend.specs.Fate.{unknown_number, repeat, objection_limit, fate_number}
use Rattle.mend.specs.Report.{moved_word, dropped_word, row_of, report_of}
use Rattle.mend.proofs.ReportRow.{row_length}
use Rattle.mend_report.specs.NumberedReport.{word_of, fate_field, numbered_row, numbered_row_of, numbered_report}

-- whatever the fate is
pub field_small : (fate : ℕ) → length (fate_field fate) ≤ 9
field_small fate = go (eqb fate 4)
  where
    go : (b : Bool) → length (9 ∷ (cond b moved_word dropped_word ++ (9 ∷ []))) ≤ 9
    go true = omega arith
    go false = omega arith

module _ (line fate : ℕ) where
  pub pieces_length : length (numbered_row line fate)
      ≡ length (decimal line) + length (fate_field fate) + length (decimal fate) + 1
  pieces_length = omega (arith, row_length line (word_of fate) fate, length-append (word_of fate) (9 ∷ []))

  -- whatever the numbers are
  row_small : length (numbered_row_of line fate) ≤ 30
  row_small = go (eqb fate 0)
    where
      go : (b : Bool) → length (cond b [] (numbered_row line fate)) ≤ 30
      go true = omega arith
      go false = omega (arith, pieces_length, ten_digits line, field_small fate, ten_digits fate)

module _ (fates : List ℕ) where
  -- the row of the line at a place
  abbrev pub row_at : ℕ → List ℕ
  row_at k = numbered_row_of (suc k) (get_or fates k 0)

  pub told_row : (k : ℕ) → (get_or fates k 0 ≡ 0 → ⊥) → numbered_row (k + 1) (get_or fates k 0) ≡ row_at k
  told_row k n = rw (ne_eqb (get_or fates k 0) 0 n, add-one) refl

  pub kept_row : (k : ℕ) → get_or fates k 0 ≡ 0 → [] ≡ row_at k
  kept_row k e = rw (eq-eqb (get_or fates k 0) 0 e) refl

  pub rows_bounded : (n : ℕ) → length (rows_to n row_at) ≤ 30 * n
  rows_bounded = rows_small row_at 30 (λ k. row_small (suc k) (get_or fates k 0))

  -- all rows, once the last line was passed
  pub report_all : (n : ℕ) → n ≡ length fates → rows_to n row_at ≡ numbered_report fates
  unfolding numbered_report
  report_all n e = ap (λ m. rows_to m row_at) e

-- the row of a fate goes by its number
row_is : (line other : ℕ) (fate : Fate) → numbered_row_of line (fate_number other fate) ≡ row_of line fate
row_is line other kept = refl
row_is line other moved = refl
row_is line other (dropped unended_line) = refl
row_is line other (dropped spoiled_line) = refl
row_is line other (dropped second_statement) = refl
row_is line other (dropped statement_limit) = refl
row_is line other (dropped unknown_number) = refl
row_is line other (dropped repeat) = refl
row_is line other (dropped objection_limit) = refl

pub report_is : (other : ℕ) (fates : List Fate) → numbered_report (map (fate_number other) fates) ≡ report_of fates
unfolding numbered_report report_of
report_is other fates =
    ap (λ n. rows_to n (row_at (map (fate_number other) fates))) (length-map fates (fate_number other))
    ∙ rows_same (length fates) (row_at (map (fate_number other) fates)) (λ k. row_of (suc k) (get_or fates k kept))
    (λ k h. ap (numbered_row_of (suc k)) (get_or-map (fate_number other) fates k kept) ∙ row_is (suc k) other
    (get_or fates k kept))

-- what the sizes are added up by
pub ruleset sizes = (
  ten_digits,
  field_small,
  pieces_length,
  no_rows,
  rows_longer,
  told_row,
  kept_row,
  rows_bounded,
  report_all,
)
