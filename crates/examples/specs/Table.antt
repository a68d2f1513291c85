-- The examples that 01 marks P, in one table, examples of reasons in another, and of label sheets in a third. A row is a register
-- text with its listing, a register text with the text of a finish and the finish's listing, a register text with a number and
-- the reason of its statement, or a register text with its sheet and totals. What a row says is said by the meanings: texts by
-- their written form, labels and lengths by forced win, the finish by the finish relation, the reason by what it reaches.
use Rattle.std.specs.Prelude.{List, [], ◌∷◌, ◌≡◌, ℕ}
use Prim.Native.Char.{code}
use Prim.Native.String.{String, [] as ended, ◌∷◌ as ◌then◌}
use Rattle.game.specs.Finish.{Finish}
use Rattle.register.specs.Register.{Register, book, Places}
use Rattle.sheet.specs.Sheet.{total, IsSheet}
use Rattle.listing.specs.Listing.{IsListing}
use Rattle.reason.specs.Reasons.{IsReason}
use Rattle.register.specs.Reads.{Accepts}

-- a text in two parts, where it is too long for a line
unfoldable pub in_parts : (first rest : String) → String
in_parts ended rest = rest
in_parts (c then s) rest = c then in_parts s rest

-- the bytes of a text as it is typed here: `\t` is byte 9, `\n` byte 10
unfoldable pub ascii : String → List ℕ
ascii ended = []
ascii (c then s) = code c ∷ ascii s

pub data Row : Type 0 where
  lists : (text listing : String) → Row
  finishes : (text finish listing : String) → Row
  explains : (text : String) (number : ℕ) (reason : String) → Row
  packs : (text : String) (sheet totals : List ℕ) → Row

-- the totals of a sheet of n statements: open, stands, falls
abbrev pub totals_of : List ℕ → ℕ → List ℕ
totals_of sheet n = total sheet n 0 ∷ (total sheet n 1 ∷ (total sheet n 2 ∷ []))

abbrev pub Says : Row → Type 0
Says (lists text listing) = (R : Register) × Accepts (ascii text) R × IsListing R (ascii listing)
Says (finishes text finish listing) =
    (R F : Register) × Accepts (ascii text) R × Accepts (ascii finish) F × Finish (book R) (book F) × IsListing F (ascii listing)
Says (explains text number reason) =
    (R : Register) × Accepts (ascii text) R × ((x : ℕ) × Places R number x × IsReason R x (ascii reason))
Says (packs text sheet totals) =
    (R : Register) × Accepts (ascii text) R × IsSheet (book R) sheet × (totals ≡ totals_of sheet (book R).size)

-- what a table says: every row
abbrev pub Every : {Row : Type 0} → (Row → Type 0) → List Row → Type 0
Every P [] = Unit {0}
Every P (r ∷ rs) = P r × Every P rs

unfoldable pub table : List Row
table =
    -- "empty text: header `REGISTER 0 0` alone"
    lists "" "REGISTER\t0\t0\n"
    -- "one read statement: stands 0"; "one unread: open"; "one read that objects to itself: open"
    ∷ lists "S\t1\tR\n" "REGISTER\t1\t0\n1\tstands\t0\n"
    ∷ lists "S\t1\tU\n" "REGISTER\t1\t0\n1\topen\t-\n"
    ∷ lists "S\t1\tR\nO\t1\t1\n" "REGISTER\t1\t1\n1\topen\t-\n1\t1\tstandoff\t-\n"
    -- "two that object to each other: both open"; "a circle of three: all open"
    ∷ lists "S\t1\tR\nS\t2\tR\nO\t1\t2\nO\t2\t1\n"
    "REGISTER\t2\t2\n1\topen\t-\n2\topen\t-\n1\t2\tstandoff\t-\n2\t1\tstandoff\t-\n"
    ∷ lists "S\t1\tR\nS\t2\tR\nS\t3\tR\nO\t1\t2\nO\t2\t3\nO\t3\t1\n"
    "REGISTER\t3\t3\n1\topen\t-\n2\topen\t-\n3\topen\t-\n1\t2\tstandoff\t-\n2\t3\tstandoff\t-\n3\t1\tstandoff\t-\n"
    -- "the listing above"
    ∷ lists "S\t101\tR\nS\t102\tR\nS\t103\tR\nS\t104\tR\nO\t102\t101\nO\t101\t102\nO\t103\t102\nO\t104\t103\n"
    (in_parts "REGISTER\t4\t4\n101\topen\t-\n102\topen\t-\n103\tfalls\t1\n104\tstands\t0\n"
    "102\t101\tstandoff\t-\n101\t102\tstandoff\t-\n103\t102\tidle\t-\n104\t103\tfelling\t1\n")
    -- "1 unread, 2 read objects to 1, 1 objects to 3, 3 read: 2 stands 0, 1 falls 1, 3 stands 2"
    ∷ lists "S\t1\tU\nS\t2\tR\nS\t3\tR\nO\t2\t1\nO\t1\t3\n"
    "REGISTER\t3\t2\n1\tfalls\t1\n2\tstands\t0\n3\tstands\t2\n2\t1\tfelling\t1\n1\t3\tdelaying\t2\n"
    -- "1 unread, 1 objects to 2, 2 read: both open"
    ∷ lists "S\t1\tU\nS\t2\tR\nO\t1\t2\n" "REGISTER\t2\t1\n1\topen\t-\n2\topen\t-\n1\t2\tstandoff\t-\n"
    -- "4 against 3, 3 against 2, 2 against 1, with 1 unread and the rest read: 4 stands 0, 3 falls 1, 2 stands 2, 1 falls 3"
    ∷ lists "S\t1\tU\nS\t2\tR\nS\t3\tR\nS\t4\tR\nO\t4\t3\nO\t3\t2\nO\t2\t1\n"
    (in_parts "REGISTER\t4\t3\n1\tfalls\t3\n2\tstands\t2\n3\tfalls\t1\n4\tstands\t0\n"
    "4\t3\tfelling\t1\n3\t2\tdelaying\t2\n2\t1\tfelling\t3\n")
    -- "a finish adds 4 against 1: 1 falls 1"
    ∷ finishes "S\t1\tU\nS\t2\tR\nS\t3\tR\nS\t4\tR\nO\t4\t3\nO\t3\t2\nO\t2\t1\n"
    "S\t1\tR\nS\t2\tR\nS\t3\tR\nS\t4\tR\nO\t4\t3\nO\t3\t2\nO\t2\t1\nO\t4\t1\n"
    (in_parts "REGISTER\t4\t4\n1\tfalls\t1\n2\tstands\t2\n3\tfalls\t1\n4\tstands\t0\n"
    "4\t3\tfelling\t1\n3\t2\tdelaying\t2\n2\t1\tfelling\t3\n4\t1\tfelling\t1\n")
    -- "all read; 5 against 6; 6 against 7; 7 against 6: 5 stands 0, 6 falls 1, 7 stands 2; 7 against 6 is felling, length 3"
    ∷ lists "S\t5\tR\nS\t6\tR\nS\t7\tR\nO\t5\t6\nO\t6\t7\nO\t7\t6\n"
    "REGISTER\t3\t3\n5\tstands\t0\n6\tfalls\t1\n7\tstands\t2\n5\t6\tfelling\t1\n6\t7\tdelaying\t2\n7\t6\tfelling\t3\n"
    ∷ []

-- What too narrow and too wide reasons would get wrong. In 5, 6, 7 the reason for 6 is 5 against 6 alone, and the one for 7 has
-- no other against 6 either; 5 has none. In the listing of 01, 103 against 102 is in no reason. Where 1 falls by two that stand
-- in 0, both are in its reason, and one that stands in 2 is not. Where 1 stands, every objection against it is in its reason,
-- also the delaying one of length 2 beside the one of length 4.
unfoldable pub reasons : List Row
reasons =
    explains "S\t5\tR\nS\t6\tR\nS\t7\tR\nO\t5\t6\nO\t6\t7\nO\t7\t6\n" 6 "6\tfalls\t1\n5\t6\tfelling\t1\n"
    ∷ explains "S\t101\tR\nS\t102\tR\nS\t103\tR\nS\t104\tR\nO\t102\t101\nO\t101\t102\nO\t103\t102\nO\t104\t103\n" 102
    "102\topen\t-\n102\t101\tstandoff\t-\n101\t102\tstandoff\t-\n"
    ∷ explains "S\t5\tR\nS\t6\tR\nS\t7\tR\nO\t5\t6\nO\t6\t7\nO\t7\t6\n" 7
    "7\tstands\t2\n5\t6\tfelling\t1\n6\t7\tdelaying\t2\n"
    ∷ explains "S\t5\tR\nS\t6\tR\nS\t7\tR\nO\t5\t6\nO\t6\t7\nO\t7\t6\n" 5 "5\tstands\t0\n"
    ∷ explains "S\t101\tR\nS\t102\tR\nS\t103\tR\nS\t104\tR\nO\t102\t101\nO\t101\t102\nO\t103\t102\nO\t104\t103\n" 101
    "101\topen\t-\n102\t101\tstandoff\t-\n101\t102\tstandoff\t-\n"
    ∷ explains "S\t101\tR\nS\t102\tR\nS\t103\tR\nS\t104\tR\nO\t102\t101\nO\t101\t102\nO\t103\t102\nO\t104\t103\n" 103
    "103\tfalls\t1\n104\t103\tfelling\t1\n"
    ∷ explains "S\t101\tR\nS\t102\tR\nS\t103\tR\nS\t104\tR\nO\t102\t101\nO\t101\t102\nO\t103\t102\nO\t104\t103\n" 104
    "104\tstands\t0\n"
    -- 2 and 3 stand in 0, 4 falls in 1, 5 stands in 2; against 1 are 2, 5 and 3
    ∷ explains "S\t1\tR\nS\t2\tR\nS\t3\tR\nS\t4\tR\nS\t5\tR\nO\t2\t1\nO\t5\t1\nO\t4\t5\nO\t2\t4\nO\t3\t1\n" 1
    "1\tfalls\t1\n2\t1\tfelling\t1\n3\t1\tfelling\t1\n"
    -- 5 stands in 0, 4 falls in 1, 3 stands in 2, 2 falls in 3; against 1 are 4 and 2
    ∷ explains "S\t1\tR\nS\t2\tR\nS\t3\tR\nS\t4\tR\nS\t5\tR\nO\t5\t4\nO\t4\t3\nO\t3\t2\nO\t4\t1\nO\t2\t1\n" 1
    (in_parts "1\tstands\t4\n5\t4\tfelling\t1\n4\t3\tdelaying\t2\n3\t2\tfelling\t3\n"
    "4\t1\tdelaying\t2\n2\t1\tdelaying\t4\n")
    ∷ []

-- Two bits each, the first lowest: 96 is 0 + 4 · 0 + 16 · 2 + 64 · 1, the codes of open, open, falls, stands in the listing of
-- 01. No statement, no byte. A fifth statement begins a second byte, and its spare bits are 0.
unfoldable pub sheets : List Row
sheets =
    packs "" [] (0 ∷ (0 ∷ (0 ∷ [])))
    ∷ packs "S\t101\tR\nS\t102\tR\nS\t103\tR\nS\t104\tR\nO\t102\t101\nO\t101\t102\nO\t103\t102\nO\t104\t103\n" (96 ∷ [])
    (2 ∷ (1 ∷ (1 ∷ [])))
    ∷ packs "S\t1\tR\nS\t2\tR\nS\t3\tU\nS\t4\tR\nS\t5\tR\nO\t1\t5\n" (69 ∷ (2 ∷ [])) (1 ∷ (3 ∷ (1 ∷ [])))
    ∷ []
