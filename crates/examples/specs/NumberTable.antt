-- What the two calls on one number answer, as a C caller gets it, and what the room then holds: each form at its edges, what is
-- no number, codes that are nobody's, and rooms that just fit or do not. A row says what the call's promise says. Rooms are
-- found full of dots.
use Rattle.std.specs.Prelude.{List, [], ◌∷◌, ℕ}
use Prim.Native.String.{String}
use Rattle.answer.specs.InC.{InC}
use Rattle.answer.specs.declared.CAnswer.{CAnswer}
use Rattle.promises.specs.NumberCalls.{NumberCode, NumberText}
use Rattle.examples.specs.Table.{ascii}
use Rattle.examples.specs.ListsTable.{gives, refuses}

-- what is written, or the code and the lent room; the answer; the room after it
pub data NumberRow : Type 0 where
  code : (written : String) → CAnswer → NumberRow
  text : (number : ℕ) (room : String) → CAnswer → (after : String) → NumberRow

abbrev pub OnNumberSays : NumberRow → Type 0
OnNumberSays (code written c) = InC (NumberCode (ascii written)) c
OnNumberSays (text number room c after) = InC (λ a. NumberText number (ascii room) a (ascii after)) c

unfoldable pub number_table : List NumberRow
number_table =
    -- "A number is 1 to 8 decimal digits, the first not 0."
    code "1" (gives 1)
    ∷ code "1987" (gives 1987)
    ∷ code "99999999" (gives 99999999)
    ∷ code "" (refuses 3 0)
    ∷ code "0" (refuses 3 0)
    ∷ code "07" (refuses 3 0)
    ∷ code "100000000" (refuses 3 0)
    ∷ code "7x" (refuses 3 0)
    -- "a year of four digits, 1000 to 2099, a point, and a serial of 1 to 4 digits whose first isn't 0"
    ∷ code "1987.14" (gives 119870014)
    ∷ code "1987.1" (gives 119870001)
    ∷ code "1987.10" (gives 119870010)
    ∷ code "1000.1" (gives 110000001)
    ∷ code "2099.9999" (gives 120999999)
    ∷ code "999.1" (refuses 3 0)
    ∷ code "0999.1" (refuses 3 0)
    ∷ code "2100.1" (refuses 3 0)
    ∷ code "19870.1" (refuses 3 0)
    ∷ code "1987." (refuses 3 0)
    ∷ code "1987.0" (refuses 3 0)
    ∷ code "1987.01" (refuses 3 0)
    ∷ code "1987.12345" (refuses 3 0)
    ∷ code ".14" (refuses 3 0)
    ∷ code "." (refuses 3 0)
    ∷ code "1987.14.2" (refuses 3 0)
    ∷ code "1987,14" (refuses 3 0)
    -- no more bytes than the number has are written, and a room that just fits is long enough
    ∷ text 1987 "......" (gives 4) "1987.."
    ∷ text 99999999 "........" (gives 8) "99999999"
    ∷ text 119870014 "........." (gives 7) "1987.14.."
    ∷ text 110000001 "......" (gives 6) "1000.1"
    ∷ text 120999999 "........." (gives 9) "2099.9999"
    ∷ text 120999999 "........" (refuses 10 0) "........"
    ∷ text 119870014 "" (refuses 10 0) ""
    -- codes that are nobody's, whatever the room
    ∷ text 0 "........." (refuses 3 0) "........."
    ∷ text 100000000 "........." (refuses 3 0) "........."
    ∷ text 109999999 "" (refuses 3 0) ""
    ∷ text 110000000 "........." (refuses 3 0) "........."
    ∷ text 119870000 "........." (refuses 3 0) "........."
    ∷ text 121000000 "........." (refuses 3 0) "........."
    ∷ text 121000001 "........." (refuses 3 0) "........."
    ∷ text 4294967295 "" (refuses 3 0) ""
    ∷ []
