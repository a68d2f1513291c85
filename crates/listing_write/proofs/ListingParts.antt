-- The parts of a listing that the code counts: how long they are, and all of them.
use mathlib.Core.List.{List, map, ◌++◌}
use mathlib.Core.Path.{ap, sym, subst, ◌≡◌, ◌∙◌}
use Prim.Native.Nat.{ℕ, zero, suc, ◌+◌, ◌*◌, ◌≤◌}
use native.Mathlib.Numerals.{add-one}
use native.Mathlib.Omega.{arith}
use lib.ListN.{length, get_or, length-append}
use Rattle.std.specs.List.{sum, range_with_len}
use Rattle.std.proofs.lemmas.List.FromFn.{sum_by-map-range_with_len_more}
use Rattle.register.specs.Texts.{rows_to}
use Rattle.listing.specs.Rows.{header}
use Rattle.listing_row.specs.RowsAt.{statement_row_at, verdict_at, objection_row_at, kind_at}
use Rattle.listing_write.specs.ListingParts.{statement_part, objection_part, whole}
use Rattle.register.proofs.TextRows.{no_rows, rows_longer, rows_small}
use Rattle.listing.proofs.Rows.{header_small, statement_small, objection_small}

-- the sizes of rows, added up
pub sizes_summed : (row : ℕ → List ℕ) (n : ℕ) → sum (map (λ k. length (row k)) (range_with_len 0 n)) ≡ length (rows_to n row)
sizes_summed row zero = sym (ap length (no_rows row))
sizes_summed row (suc n) =
    subst (λ m. sum (map (λ k. length (row k)) (range_with_len 0 m)) ≡ length (rows_to m row)) (add-one n)
    (sum_by-map-range_with_len_more (λ x. x) (λ k. length (row k)) 0 n n (omega arith)
    ∙ omega (arith, rows_longer row n, sizes_summed row n))

-- The parts of the listing that the program counts are not long.
module _ (nums labels lengths : List ℕ) where
  pub statements_small : (n : ℕ) → length (rows_to n (statement_row_at nums labels lengths)) ≤ 64 * n
  statements_small =
      rows_small (statement_row_at nums labels lengths) 64 (λ i. statement_small (get_or nums i 0) (verdict_at labels lengths i))

  pub objections_small : (objectors targets : List ℕ) (m : ℕ)
      → length (rows_to m (objection_row_at nums objectors targets labels lengths)) ≤ 64 * m
  objections_small objectors targets =
      rows_small (objection_row_at nums objectors targets labels lengths) 64
      (λ k. objection_small (get_or nums (get_or objectors k 0) 0) (get_or nums (get_or targets k 0) 0)
      (kind_at objectors targets labels lengths k))

  pub statement_part_small : length (statement_part nums labels lengths) ≤ 64 * length nums
  unfolding statement_part
  statement_part_small = statements_small (length nums)

  pub objection_part_small : (objectors targets : List ℕ) → length
      (objection_part nums objectors targets labels lengths) ≤ 64 * length objectors
  unfolding objection_part
  objection_part_small objectors targets = objections_small objectors targets (length objectors)

  pub whole_length : (objectors targets : List ℕ) → length (whole nums objectors targets labels lengths) ≡ length
      (header (length nums) (length objectors)) + length (statement_part nums labels lengths) + length
      (objection_part nums objectors targets labels lengths)
  unfolding whole
  whole_length objectors targets =
      omega (
        arith,
        length-append (header (length nums) (length objectors))
            (statement_part nums labels lengths ++ objection_part nums objectors targets labels lengths),
        length-append (statement_part nums labels lengths) (objection_part nums objectors targets labels lengths),
      )

-- how long the parts are, and all of them, as one set
pub ruleset part_sizes = (header_small, statement_part_small, objection_part_small, whole_length)
