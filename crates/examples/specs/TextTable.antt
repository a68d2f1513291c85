-- What the calls on a register text answer, as a C caller gets it, and what the rooms then hold: labels, lengths, listing, line
-- of argument, class exercise, reason, mended text and sheet, each given in a room that is longer than the answer, and refused
-- for the text, for what is asked and for the room. A row says what the call's promise says. Rooms of bytes are found full of
-- dots, others of 7s.
use Rattle.std.specs.Prelude.{List, [], ◌∷◌, ℕ}
use Prim.Native.String.{String}
use Rattle.answer.specs.InC.{InC}
use Rattle.answer.specs.declared.CAnswer.{CAnswer}
use Rattle.promises.specs.LabelCalls.{TextLabels, TextLengths}
use Rattle.promises.specs.ListingCalls.{TextListing}
use Rattle.promises.specs.ArgumentCalls.{TextArgument}
use Rattle.promises.specs.ExerciseCalls.{TextExercise}
use Rattle.promises.specs.ReasonCalls.{TextReason}
use Rattle.promises.specs.MendCalls.{TextMend, Lent}
use Rattle.promises.specs.SheetCalls.{TextSheet, TextSheetUpdate}
use Rattle.examples.specs.Table.{ascii}
use Rattle.examples.specs.ListsTable.{gives, refuses}

-- the text, what is asked, the lent rooms; the answer; the rooms after it
pub data TextRow : Type 0 where
  labels lengths : (text : String) (room : List ℕ) → CAnswer → (after : List ℕ) → TextRow
  listing : (text room : String) → CAnswer → (after : String) → TextRow
  argument : (text : String) (number : ℕ) (room : List ℕ) → CAnswer → (after : List ℕ) → TextRow
  exercise : (text : String) (number turns : ℕ) → CAnswer → TextRow
  reason : (text : String) (number : ℕ) (room : String) → CAnswer → (after : String) → TextRow
  mend : (text : String) (lent : String × String × ℕ) → CAnswer → (after : String × String × ℕ) → TextRow
  sheet update : (text : String) (rooms : List ℕ × List ℕ) → CAnswer → (after : List ℕ × List ℕ) → TextRow

-- the rooms for a mended text and its report, and how long the report is, typed
abbrev pub lent_as : String × String × ℕ → Lent
lent_as lent = (ascii lent.0, ascii lent.1, lent.2)

abbrev pub OnTextSays : TextRow → Type 0
OnTextSays (labels text room c after) = InC (λ a. TextLabels (ascii text) room a after) c
OnTextSays (lengths text room c after) = InC (λ a. TextLengths (ascii text) room a after) c
OnTextSays (listing text room c after) = InC (λ a. TextListing (ascii text) (ascii room) a (ascii after)) c
OnTextSays (argument text number room c after) = InC (λ a. TextArgument (ascii text) number room a after) c
OnTextSays (exercise text number turns c) = InC (TextExercise (ascii text) number turns) c
OnTextSays (reason text number room c after) = InC (λ a. TextReason (ascii text) number (ascii room) a (ascii after)) c
OnTextSays (mend text lent c after) = InC (λ a. TextMend (ascii text) (lent_as lent) a (lent_as after)) c
OnTextSays (sheet text rooms c after) = InC (λ a. TextSheet (ascii text) rooms a after) c
OnTextSays (update text rooms c after) = InC (λ a. TextSheetUpdate (ascii text) rooms a after) c

-- The listing of 01, and its chain of four: 1 falls in 3, 2 stands in 2, 3 falls in 1, 4 stands in 0.
abbrev pub game : String
game = "S\t101\tR\nS\t102\tR\nS\t103\tR\nS\t104\tR\nO\t102\t101\nO\t101\t102\nO\t103\t102\nO\t104\t103\n"

abbrev pub four : String
four = "S\t1\tU\nS\t2\tR\nS\t3\tR\nS\t4\tR\nO\t4\t3\nO\t3\t2\nO\t2\t1\n"

unfoldable pub text_table : List TextRow
text_table =
    labels "" [] (gives 0) []
    ∷ labels game (7 ∷ 7 ∷ 7 ∷ 7 ∷ 7 ∷ []) (gives 4) (0 ∷ 0 ∷ 2 ∷ 1 ∷ 7 ∷ [])
    ∷ lengths game (7 ∷ 7 ∷ 7 ∷ 7 ∷ 7 ∷ []) (gives 4) (65535 ∷ 65535 ∷ 1 ∷ 0 ∷ 7 ∷ [])
    -- 2, 3, 4, 5, 7, 8: the text's own refusals come first, "For a text the place is the line, from 1"
    ∷ labels "S\t1\tR" [] (refuses 2 0) []
    ∷ labels "S\t1\tR\n\n" (7 ∷ 7 ∷ []) (refuses 3 2) (7 ∷ 7 ∷ [])
    ∷ labels "S\t1\tR\nO\t1\t1\nS\t2\tR\n" (7 ∷ 7 ∷ []) (refuses 4 3) (7 ∷ 7 ∷ [])
    ∷ lengths "S\t1\tR\nS\t1\tR\n" (7 ∷ 7 ∷ []) (refuses 5 2) (7 ∷ 7 ∷ [])
    ∷ lengths "O\t1\t1\n" [] (refuses 7 1) []
    ∷ lengths "S\t1\tR\nO\t1\t1\nO\t1\t1\n" [] (refuses 8 3) []
    -- 10: "lent room shorter than the answer"
    ∷ labels "S\t1\tR\nS\t2\tR\n" (7 ∷ []) (refuses 10 0) (7 ∷ [])
    ∷ lengths "S\t1\tR\n" [] (refuses 10 0) []
    -- a listing has as many bytes as it is told
    ∷ listing "S\t1\tR\n" ".........................." (gives 24) "REGISTER\t1\t0\n1\tstands\t0\n.."
    ∷ listing "S\t1\tR\n" "......................." (refuses 10 0) "......................."
    ∷ listing "" "............." (gives 13) "REGISTER\t0\t0\n"
    ∷ listing "S\t1\n" "..." (refuses 3 1) "..."
    -- a line of argument by numbers: of one that falls, stands, is open; by listed order, not by number
    ∷ argument four 1 (7 ∷ 7 ∷ 7 ∷ 7 ∷ 7 ∷ []) (gives 4) (1 ∷ 2 ∷ 3 ∷ 4 ∷ 7 ∷ [])
    ∷ argument four 2 (7 ∷ 7 ∷ 7 ∷ 7 ∷ []) (gives 3) (2 ∷ 3 ∷ 4 ∷ 7 ∷ [])
    ∷ argument game 101 (7 ∷ 7 ∷ []) (gives 1) (101 ∷ 7 ∷ [])
    ∷ argument "S\t9\tR\nS\t3\tR\nS\t1\tR\nO\t1\t9\nO\t3\t9\n" 9 (7 ∷ 7 ∷ []) (gives 2) (9 ∷ 3 ∷ [])
    -- a year number is asked for, and told, by its code; a code that is nobody's is on no line
    ∷ argument "S\t1987.14\tR\nS\t7\tR\nO\t7\t1987.14\n" 119870014 (7 ∷ 7 ∷ []) (gives 2) (119870014 ∷ 7 ∷ [])
    ∷ argument "S\t1987.14\tR\n" 119870000 (7 ∷ []) (refuses 14 0) (7 ∷ [])
    -- "then 14, 15, 10"
    ∷ argument four 5 [] (refuses 14 0) []
    ∷ argument four 1 (7 ∷ 7 ∷ 7 ∷ []) (refuses 10 0) (7 ∷ 7 ∷ 7 ∷ [])
    ∷ argument "S\t1\tR\nS\t1\tR\n" 2 [] (refuses 5 2) []
    -- the class exercise: 2 falls, 1 stands, 0 neither within so many turns
    ∷ exercise four 1 3 (gives 2)
    ∷ exercise four 1 2 (gives 0)
    ∷ exercise four 2 2 (gives 1)
    ∷ exercise four 2 1 (gives 0)
    ∷ exercise four 4 0 (gives 1)
    ∷ exercise game 101 6 (gives 0)
    ∷ exercise four 5 6 (refuses 14 0)
    ∷ exercise four 1 7 (refuses 15 0)
    ∷ exercise four 5 7 (refuses 14 0)
    ∷ exercise "S\t1\tU" 2 7 (refuses 2 0)
    -- the reason of a statement
    ∷ reason game 103 "...................................." (gives 30) "103\tfalls\t1\n104\t103\tfelling\t1\n......"
    ∷ reason game 103 "............................." (refuses 10 0) "............................."
    ∷ reason game 105 "." (refuses 14 0) "."
    ∷ reason "O\t1\t1\n" 1 "." (refuses 7 1) "."
    -- a register comes back mended as it was, with nothing reported
    ∷ mend "S\t1\tR\nO\t1\t1\n" ("..............", "..", 7) (gives 12) ("S\t1\tR\nO\t1\t1\n..", "..", 0)
    ∷ mend "S\t1\tR\n" (".....", "..", 7) (refuses 10 0) (".....", "..", 7)
    -- a fresh sheet, and its totals: open, stands, falls
    ∷ sheet game (7 ∷ 7 ∷ [], 7 ∷ 7 ∷ 7 ∷ 7 ∷ []) (gives 1) (96 ∷ 7 ∷ [], 2 ∷ 1 ∷ 1 ∷ 7 ∷ [])
    ∷ sheet "" ([], 7 ∷ 7 ∷ 7 ∷ []) (gives 0) ([], 0 ∷ 0 ∷ 0 ∷ [])
    ∷ sheet game ([], 7 ∷ 7 ∷ 7 ∷ []) (refuses 10 0) ([], 7 ∷ 7 ∷ 7 ∷ [])
    ∷ sheet game (7 ∷ [], 7 ∷ 7 ∷ []) (refuses 10 0) (7 ∷ [], 7 ∷ 7 ∷ [])
    ∷ sheet "\n" ([], []) (refuses 3 1) ([], [])
    -- an old one of four that stand, updated; one that is up to date
    ∷ update game (85 ∷ [], 0 ∷ 4 ∷ 0 ∷ 7 ∷ []) (gives 1) (96 ∷ [], 2 ∷ 1 ∷ 1 ∷ 7 ∷ [])
    ∷ update game (96 ∷ [], 2 ∷ 1 ∷ 1 ∷ []) (gives 1) (96 ∷ [], 2 ∷ 1 ∷ 1 ∷ [])
    -- 16: "an old sheet with a 3, a size that isn't the register's, a set spare bit or wrong totals, then 10"
    ∷ update game (3 ∷ [], 3 ∷ 0 ∷ 0 ∷ []) (refuses 16 0) (3 ∷ [], 3 ∷ 0 ∷ 0 ∷ [])
    ∷ update game (96 ∷ 0 ∷ [], 2 ∷ 1 ∷ 1 ∷ []) (refuses 16 0) (96 ∷ 0 ∷ [], 2 ∷ 1 ∷ 1 ∷ [])
    ∷ update game ([], 4 ∷ 0 ∷ 0 ∷ []) (refuses 16 0) ([], 4 ∷ 0 ∷ 0 ∷ [])
    ∷ update "S\t1\tR\n" (5 ∷ [], 0 ∷ 1 ∷ 0 ∷ []) (refuses 16 0) (5 ∷ [], 0 ∷ 1 ∷ 0 ∷ [])
    ∷ update game (96 ∷ [], 1 ∷ 2 ∷ 1 ∷ []) (refuses 16 0) (96 ∷ [], 1 ∷ 2 ∷ 1 ∷ [])
    ∷ update game (96 ∷ [], 1 ∷ []) (refuses 16 0) (96 ∷ [], 1 ∷ [])
    ∷ update game (96 ∷ [], 2 ∷ 1 ∷ []) (refuses 10 0) (96 ∷ [], 2 ∷ 1 ∷ [])
    ∷ update "S\t1\tR\nO\t1\t2\n" (3 ∷ [], []) (refuses 7 2) (3 ∷ [], [])
    ∷ []
