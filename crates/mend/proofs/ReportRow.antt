-- One row of a report: the pieces that it is put together of, and how long it is.
use mathlib.Core.List.{List, append_assoc, [], ◌∷◌, ◌++◌}
use mathlib.Core.Path.{◌≡◌}
use Prim.Native.Nat.{ℕ, ◌+◌}
use native.Mathlib.Omega.{arith}
use lib.ListN.{length, length-append}
use Rattle.register.specs.Texts.{decimal}
use Rattle.mend.specs.Report.{report_row}

module _ (line : ℕ) (word : List ℕ) (number : ℕ) where
  pub row_pieces : ((decimal line ++ (9 ∷ (word ++ (9 ∷ [])))) ++ decimal number) ++ (10 ∷ []) ≡ report_row line word number
  unfolding report_row
  row_pieces = simp append_assoc

  pub row_length : length (report_row line word number) ≡ length (decimal line) + (2 + length word) + length (decimal number) + 1
  row_length = rw (← row_pieces) (simp length-append (omega (arith, length-append word (9 ∷ []))))
