-- What the programs `list` and `reason` print for typed texts: every refusal of a text that can be typed here, each at its first
-- possible line and at a later one, two faults at once in both orders, and what is accepted at the edges. A row says what the
-- program's promise says, so numbers, places and words are those that are seen.
use Rattle.std.specs.Prelude.{List, [], ◌∷◌}
use Prim.Native.String.{String}
use Rattle.promises.specs.Programs.{Prints, PrintsReason}
use Rattle.examples.specs.Table.{ascii}

pub data PrintedRow : Type 0 where
  list : (text printed : String) → PrintedRow
  reason : (text argument printed : String) → PrintedRow

abbrev pub Printing : PrintedRow → Type 0
Printing (list text printed) = Prints (ascii text) (ascii printed)
Printing (reason text argument printed) = PrintsReason (ascii text) (ascii argument) (ascii printed)

unfoldable pub printed : List PrintedRow
printed =
    -- 2: "text not empty and its last byte not 10", before any line is looked at
    list "S" "REFUSED\t2\t0\n"
    ∷ list "S\t1\tR" "REFUSED\t2\t0\n"
    ∷ list "S\t1\tR\nS\t2\tR" "REFUSED\t2\t0\n"
    ∷ list "\nS\t1\tR" "REFUSED\t2\t0\n"
    -- 3: "A blank line, a space, byte 13, a missing or extra field spoils a line."
    ∷ list "\n" "REFUSED\t3\t1\n"
    ∷ list "S\t1\tR\n\n" "REFUSED\t3\t2\n"
    ∷ list "S 1\tR\n" "REFUSED\t3\t1\n"
    ∷ list "S\t1\tR \n" "REFUSED\t3\t1\n"
    ∷ list "S\t1\tR\nO\t1 \t1\n" "REFUSED\t3\t2\n"
    ∷ list "S\t1\tR\r\n" "REFUSED\t3\t1\n"
    ∷ list "S\t1\tR\nO\t1\t1\r\n" "REFUSED\t3\t2\n"
    ∷ list "S\t1\n" "REFUSED\t3\t1\n"
    ∷ list "S\t\tR\n" "REFUSED\t3\t1\n"
    ∷ list "S\t1\tR\nO\t1\n" "REFUSED\t3\t2\n"
    ∷ list "S\t1\tR\tR\n" "REFUSED\t3\t1\n"
    ∷ list "S\t1\tR\t\n" "REFUSED\t3\t1\n"
    ∷ list "S\t1\tR\nO\t1\t1\t1\n" "REFUSED\t3\t2\n"
    -- "`0`, `07` and nine digits refused 3"; "Number `99999999` accepted"
    ∷ list "S\t0\tR\n" "REFUSED\t3\t1\n"
    ∷ list "S\t07\tR\n" "REFUSED\t3\t1\n"
    ∷ list "S\t100000000\tR\n" "REFUSED\t3\t1\n"
    ∷ list "S\t7\tR\nO\t7\t0\n" "REFUSED\t3\t2\n"
    ∷ list "S\t7\tR\nO\t07\t7\n" "REFUSED\t3\t2\n"
    ∷ list "S\t7\tR\nO\t7\t100000000\n" "REFUSED\t3\t2\n"
    ∷ list "S\t99999999\tR\n" "REGISTER\t1\t0\n99999999\tstands\t0\n"
    ∷ list "S\t10\tR\nS\t1\tU\n" "REGISTER\t2\t0\n10\tstands\t0\n1\topen\t-\n"
    -- "a year of four digits, 1000 to 2099, a point, and a serial of 1 to 4 digits whose first isn't 0", in each field
    ∷ list "S\t1987.14\tR\nS\t198714\tR\nO\t198714\t1987.14\nO\t1987.14\t198714\n"
    "REGISTER\t2\t2\n1987.14\topen\t-\n198714\topen\t-\n198714\t1987.14\tstandoff\t-\n1987.14\t198714\tstandoff\t-\n"
    ∷ list "S\t1000.1\tU\nS\t2099.9999\tR\n" "REGISTER\t2\t0\n1000.1\topen\t-\n2099.9999\tstands\t0\n"
    ∷ list "S\t2100.1\tR\n" "REFUSED\t3\t1\n"
    ∷ list "S\t7\tR\nO\t1987.01\t7\n" "REFUSED\t3\t2\n"
    ∷ list "S\t7\tR\nO\t7\t1987.\n" "REFUSED\t3\t2\n"
    ∷ list "S\t1987.1\tR\nS\t1987.10\tR\nS\t1987.1\tR\n" "REFUSED\t5\t3\n"
    ∷ list "S\t1987.1\tR\nO\t1987.1\t1987.2\n" "REFUSED\t7\t2\n"
    -- a number with another byte in it, a mark and a first letter that are none
    ∷ list "S\t1a\tR\n" "REFUSED\t3\t1\n"
    ∷ list "S\t+1\tR\n" "REFUSED\t3\t1\n"
    ∷ list "S\t1\tr\n" "REFUSED\t3\t1\n"
    ∷ list "S\t1\tRU\n" "REFUSED\t3\t1\n"
    ∷ list "s\t1\tR\n" "REFUSED\t3\t1\n"
    ∷ list "S\t1\tR\nA\t1\t1\n" "REFUSED\t3\t2\n"
    -- 4: "statement line after an objection line"; a spoiled one is 3, and one of a number already issued 4
    ∷ list "S\t1\tR\nO\t1\t1\nS\t2\tR\n" "REFUSED\t4\t3\n"
    ∷ list "S\t1\tR\nS\t2\tR\nO\t1\t2\nO\t2\t1\nS\t3\tU\n" "REFUSED\t4\t5\n"
    ∷ list "S\t1\tR\nO\t1\t1\nS\t2\tr\n" "REFUSED\t3\t3\n"
    ∷ list "S\t1\tR\nO\t1\t1\nS\t1\tR\n" "REFUSED\t4\t3\n"
    -- 5: "statement number already issued"
    ∷ list "S\t101\tR\nS\t101\tR\n" "REFUSED\t5\t2\n"
    ∷ list "S\t1\tR\nS\t2\tR\nS\t1\tU\n" "REFUSED\t5\t3\n"
    -- 7: "objector or target not on the register"
    ∷ list "O\t1\t1\n" "REFUSED\t7\t1\n"
    ∷ list "S\t1\tR\nO\t2\t1\n" "REFUSED\t7\t2\n"
    ∷ list "S\t1\tR\nO\t1\t1\nO\t1\t2\n" "REFUSED\t7\t3\n"
    -- 8: "same objector and target as earlier"; the same turned round is no repeat
    ∷ list "S\t1\tR\nO\t1\t1\nO\t1\t1\n" "REFUSED\t8\t3\n"
    ∷ list "S\t1\tR\nS\t2\tR\nO\t1\t2\nO\t2\t1\nO\t1\t2\n" "REFUSED\t8\t5\n"
    ∷ list "S\t1\tR\nS\t2\tR\nO\t2\t2\nO\t1\t2\nO\t2\t1\n"
    "REGISTER\t2\t3\n1\topen\t-\n2\topen\t-\n2\t2\tstandoff\t-\n1\t2\tstandoff\t-\n2\t1\tstandoff\t-\n"
    -- two faults, in both orders: the earlier line is told
    ∷ list "S\t1\tR\nS\t2\nS\t1\tR\n" "REFUSED\t3\t2\n"
    ∷ list "S\t1\tR\nS\t1\tR\nS\t2\n" "REFUSED\t5\t2\n"
    ∷ list "S\t1\tR\nO\t1\t2\nS\t2\tR\n" "REFUSED\t7\t2\n"
    ∷ list "S\t1\tR\nO\t1\t1\nS\t2\tR\nO\t1\t3\n" "REFUSED\t4\t3\n"
    ∷ list "S\t1\tR\nO\t1\t1\nO\t1\t1\nO\t2\t1\n" "REFUSED\t8\t3\n"
    ∷ list "S\t1\tR\nO\t1\t1\nO\t2\t1\nO\t1\t1\n" "REFUSED\t7\t3\n"
    ∷ list "S\t1\tR\nS\t1\tR\nO\t2\t1\n" "REFUSED\t5\t2\n"
    -- the reason of the statement that the argument names; 14 where it names none, after all that the text is refused for
    ∷ reason "S\t5\tR\nS\t6\tR\nS\t7\tR\nO\t5\t6\nO\t6\t7\nO\t7\t6\n" "6"
    "6\tfalls\t1\n5\t6\tfelling\t1\n"
    ∷ reason "S\t99999999\tU\n" "99999999" "99999999\topen\t-\n"
    ∷ reason "S\t1987.14\tR\nS\t2\tR\nO\t2\t1987.14\n" "1987.14" "1987.14\tfalls\t1\n2\t1987.14\tfelling\t1\n"
    ∷ reason "S\t198714\tR\nS\t1987.1\tR\n" "1987.14" "REFUSED\t14\t0\n"
    ∷ reason "S\t1987.14\tR\n" "119870014" "REFUSED\t14\t0\n"
    ∷ reason "S\t1\tR\n" "2" "REFUSED\t14\t0\n"
    ∷ reason "S\t1\tR\n" "" "REFUSED\t14\t0\n"
    ∷ reason "S\t1\tR\n" "01" "REFUSED\t14\t0\n"
    ∷ reason "S\t1\tR\n" "1 " "REFUSED\t14\t0\n"
    ∷ reason "S\t1\tR\n" "one" "REFUSED\t14\t0\n"
    ∷ reason "" "1" "REFUSED\t14\t0\n"
    ∷ reason "S\t1\tR\nS\t1\tR\n" "2" "REFUSED\t5\t2\n"
    ∷ reason "S\t1\tR" "1" "REFUSED\t2\t0\n"
    ∷ []
