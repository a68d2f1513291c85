-- Not for callers of the product: the report as it is written of a room that has a number for each line's fate. That it is the
-- report of those fates, the caller shows.
use Rattle.std.specs.Prelude.{cond, List, [], ◌∷◌, ◌++◌, ℕ, suc, eqb, length, get_or}
use Rattle.register.specs.Texts.{rows_to}
use Rattle.mend.specs.Report.{moved_word, dropped_word, report_row}

-- the word of a fate by its number, and the field with a tab on either side
abbrev pub word_of : ℕ → List ℕ
word_of fate = cond (eqb fate 4) moved_word dropped_word

abbrev pub fate_field : ℕ → List ℕ
fate_field fate = 9 ∷ (word_of fate ++ (9 ∷ []))

-- the row of a line that was dropped or moved; of any line, if it has one
abbrev pub numbered_row : (line fate : ℕ) → List ℕ
numbered_row line fate = report_row line (word_of fate) fate

abbrev pub numbered_row_of : (line fate : ℕ) → List ℕ
numbered_row_of line fate = cond (eqb fate 0) [] (numbered_row line fate)

unfoldable pub numbered_report : List ℕ → List ℕ
numbered_report fates = rows_to (length fates) (λ k. numbered_row_of (suc k) (get_or fates k 0))
