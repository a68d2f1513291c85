-- The report of a text: how long it is, and that it is empty exactly if every line was kept in its place.
use mathlib.Core.List.{List, [], ◌∷◌, ◌++◌}
use mathlib.Core.Path.{refl, ap, ap₂, sym, ◌≡◌, ◌∙◌}
use Prim.Native.Nat.{ℕ, suc, zero, ◌+◌, ◌*◌, ◌≤◌, ◌<◌}
use native.Mathlib.Decide.{dec_lt}
use native.Mathlib.Omega.{arith}
use lib.ListN.{length, get_or, length-append, get_or-append, get_or-eq_default}
use lib.Seq.{get_or_at}
use Rattle.register.specs.Texts.{rows_to}
use Rattle.register.proofs.Digits.{five_digits, one_digit}
use Rattle.register.proofs.TextRows.{row_more, rows_small, rows_fewer, rows_longer}
use Rattle.mend.specs.Fate.{Fate, kept, moved, dropped, fate_number}
use Rattle.mend.specs.Report.{moved_word, dropped_word, row_of, report_of}
use Rattle.mend.proofs.Fate.{one_digit_number}
use Rattle.mend.proofs.ReportRow.{row_length}

module _ (fates : List Fate) where
  abbrev row_at : ℕ → List ℕ
  row_at k = row_of (suc k) (get_or fates k kept)

  all_rows : rows_to (length fates) row_at ≡ report_of fates
  unfolding report_of
  all_rows = refl

  -- nothing is reported of lines that are kept in their places
  kept_rows : (n : ℕ) → ((k : ℕ) → k < n → get_or fates k kept ≡ kept) → rows_to n row_at ≡ []
  unfolding rows_to
  kept_rows zero all = refl
  kept_rows (suc n) all =
      ap₂ (λ u v. u ++ v) (kept_rows n (λ k h. all k (omega arith))) (ap (row_of (suc n)) (all n (omega arith)))

  pub no_report : ((k : ℕ) → k < length fates → get_or fates k kept ≡ kept) → report_of fates ≡ []
  no_report all = sym all_rows ∙ kept_rows (length fates) all

-- and so of the lines before one that is told
pub last_reported : (fates : List Fate) (fate : Fate) → ((k : ℕ) → k < length fates → get_or fates k kept ≡ kept)
    → report_of (fates ++ (fate ∷ [])) ≡ row_of (suc (length fates)) fate
last_reported fates fate all =
    sym (all_rows both) ∙ ap (λ n. rows_to n (row_at both)) (length-append fates (fate ∷ [])) ∙ row_more (row_at both)
    (length fates)
    ∙ ap₂ (λ u v. u ++ v) (kept_rows both (length fates) (λ k h. get_or-append fates (fate ∷ []) kept k h ∙ all k h))
    (ap (row_of (suc (length fates))) (get_or_at fates fate [] kept (length fates) refl))
  where
    both : List Fate
    both = fates ++ (fate ∷ [])

-- the number of a line has at most five digits, and that of a fate has one
row_small : (line : ℕ) (fate : Fate) → line ≤ 65535 → length (row_of line fate) ≤ 16
row_small line kept h = omega arith
row_small line moved h =
    omega (
      arith,
      row_length line moved_word (fate_number line moved),
      five_digits line (omega arith),
      one_digit (fate_number line moved) (omega arith),
    )
row_small line (dropped cause) h =
    omega (
      arith,
      row_length line dropped_word (fate_number line (dropped cause)),
      five_digits line (omega arith),
      one_digit (fate_number line (dropped cause)) (one_digit_number line (dropped cause)),
    )

-- a row that is missing is that of a line kept in its place
no_row : (line : ℕ) (fate : Fate) → length (row_of line fate) ≡ 0 → fate ≡ kept
no_row line kept e = refl
no_row line moved e = absurd (omega (arith, row_length line moved_word (fate_number line moved)))
no_row line (dropped cause) e = absurd (omega (arith, row_length line dropped_word (fate_number line (dropped cause))))

module _ (fates : List Fate) where
  -- a text has at most 65,535 lines
  pub report_small : length fates ≤ 65535 → length (report_of fates) ≤ 16 * length fates
  report_small few =
      omega (arith, ap length (all_rows fates), rows_small (row_at fates) 16 (λ k. go k (dec_lt k (length fates))) (length fates))
    where
      go : (k : ℕ) → Dec (k < length fates) → length (row_at fates k) ≤ 16
      go k (yes l) = row_small (suc k) (get_or fates k kept) (omega arith)
      go k (no l) =
          let e : get_or fates k kept ≡ kept = get_or-eq_default fates kept (omega arith) in
          omega (arith, ap (λ f. length (row_of (suc k) f)) e)

  -- an empty report says so of every line
  pub report_empty : report_of fates ≡ [] → (k : ℕ) → k < length fates → get_or fates k kept ≡ kept
  report_empty none k l =
      no_row (suc k) (get_or fates k kept) (omega (
        arith,
        ap length none,
        ap length (all_rows fates),
        rows_fewer (row_at fates) (k + 1) (length fates) (omega arith),
        rows_longer (row_at fates) k,
      ))
