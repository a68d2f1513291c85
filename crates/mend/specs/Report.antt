-- The report of a mending, byte by byte: a row for each line of the text that was dropped or moved. Which fate a line has is for
-- others to say.
use Rattle.std.specs.Prelude.{List, [], ◌∷◌, ◌++◌, ℕ, suc, length, get_or}
use Rattle.register.specs.Texts.{decimal, rows_to}
use Rattle.mend.specs.Fate.{Fate, kept, moved, dropped, fate_number}

-- `moved`
abbrev pub moved_word : List ℕ
moved_word = 109 ∷ 111 ∷ 118 ∷ 101 ∷ 100 ∷ []

-- `dropped`
abbrev pub dropped_word : List ℕ
dropped_word = 100 ∷ 114 ∷ 111 ∷ 112 ∷ 112 ∷ 101 ∷ 100 ∷ []

-- "line number, `dropped` or `moved`, cause by 01's number, parted by tabs"
unfoldable pub report_row : (line : ℕ) (word : List ℕ) (number : ℕ) → List ℕ
report_row line word number = decimal line ++ (9 ∷ (word ++ (9 ∷ (decimal number ++ (10 ∷ [])))))

-- the row of a line, if it has one
abbrev pub row_of : (line : ℕ) → Fate → List ℕ
row_of line kept = []
row_of line moved = report_row line moved_word (fate_number line moved)
row_of line (dropped cause) = report_row line dropped_word (fate_number line (dropped cause))

-- "a line for each line dropped or moved, in text order"; lines are counted from 1
unfoldable pub report_of : List Fate → List ℕ
report_of fates = rows_to (length fates) (λ k. row_of (suc k) (get_or fates k kept))
