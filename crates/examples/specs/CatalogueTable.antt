-- What the two calls between the old form and the catalogue answer, as a C caller gets it, and what the room then holds:
-- registers there and back, rooms that just fit or do not, and what is refused, with faults by twos in both orders. A row says
-- what the call's promise says. Rooms are found full of dots. Of the limits it is said by texts too long to type.
use Rattle.std.specs.Prelude.{List, [], ◌∷◌, ◌++◌, ◌≡◌, ℕ, ◌+◌, ◌≤◌, ◌<◌, length}
use Prim.Native.String.{String}
use Rattle.register.specs.Number.{IsNumber}
use Rattle.register.specs.Register.{Register, Valid, written}
use Rattle.register.specs.Reads.{Accepts}
use Rattle.register.specs.declared.Mark.TheVariants.{Read}
use Rattle.catalogue.specs.Cards.{Card, card_bytes, Each, CardFormed}
use Rattle.catalogue.specs.Regrouped.{catalogued}
use Rattle.catalogue.specs.CatalogueReads.{CatalogueAccepts}
use Rattle.answer.specs.InC.{InC}
use Rattle.answer.specs.declared.CAnswer.{CAnswer}
use Rattle.promises.specs.CatalogueCalls.{TextCatalogue, CatalogueText}
use Rattle.examples.specs.Table.{ascii, in_parts}
use Rattle.examples.specs.ListsTable.{gives, refuses}
use Rattle.examples.specs.TextTable.{game}
use Rattle.examples.specs.Limits.{text_of}

-- the text or the catalogue, the lent room; the answer; the room after it
pub data CatalogueRow : Type 0 where
  catalogue uncatalogue : (given room : String) → CAnswer → (after : String) → CatalogueRow

abbrev pub OnFormSays : CatalogueRow → Type 0
OnFormSays (catalogue text room c after) = InC (λ a. TextCatalogue (ascii text) (ascii room) a (ascii after)) c
OnFormSays (uncatalogue cards room c after) = InC (λ a. CatalogueText (ascii cards) (ascii room) a (ascii after)) c

-- The listing of 01 as a catalogue; a register whose objections go from target to target, its catalogue, and what comes back.
abbrev pub game_cards : String
game_cards = "S\t101\tR\t102\nS\t102\tR\t101\t103\nS\t103\tR\t104\nS\t104\tR\n"

abbrev pub mixed : String
mixed = "S\t3\tR\nS\t1\tU\nS\t2\tR\nO\t3\t1\nO\t2\t3\nO\t2\t1\nO\t3\t2\nO\t1\t3\n"

abbrev pub mixed_cards : String
mixed_cards = "S\t3\tR\t2\t1\nS\t1\tU\t3\t2\nS\t2\tR\t3\n"

abbrev pub regrouped : String
regrouped = "S\t3\tR\nS\t1\tU\nS\t2\tR\nO\t2\t3\nO\t1\t3\nO\t3\t1\nO\t2\t1\nO\t3\t2\n"

-- a long room
abbrev pub dots : String
dots = "................................................................................"

unfoldable pub catalogue_table : List CatalogueRow
catalogue_table =
    -- no statement
    catalogue "" "" (gives 0) ""
    ∷ uncatalogue "" ".." (gives 0) ".."
    -- the listing of 01, there and back
    ∷ catalogue game dots (gives 48) (in_parts game_cards "................................")
    ∷ uncatalogue game_cards dots (gives 72) (in_parts game "........")
    -- "Objectors keep the old form's order; going back, objections are grouped by target in listed order."
    ∷ catalogue mixed dots (gives 28) (in_parts mixed_cards "....................................................")
    ∷ uncatalogue mixed_cards dots (gives 48) (in_parts regrouped "................................")
    ∷ catalogue regrouped dots (gives 28) (in_parts mixed_cards "....................................................")
    -- "In the new form a number may be named before its line." A statement may name itself; a number may be named on each line.
    ∷ catalogue "S\t1\tR\nS\t2\tR\nO\t2\t1\n" "..............." (gives 14) "S\t1\tR\t2\nS\t2\tR\n."
    ∷ uncatalogue "S\t1\tR\t2\nS\t2\tR\n" "..................." (gives 18) "S\t1\tR\nS\t2\tR\nO\t2\t1\n."
    ∷ catalogue "S\t1\tR\nO\t1\t1\n" "........." (gives 8) "S\t1\tR\t1\n."
    ∷ uncatalogue "S\t1\tR\t1\n" "............." (gives 12) "S\t1\tR\nO\t1\t1\n."
    ∷ catalogue "S\t1\tR\nS\t2\tU\nO\t1\t1\nO\t1\t2\n" "................." (gives 16) "S\t1\tR\t1\nS\t2\tU\t1\n."
    ∷ uncatalogue "S\t1\tR\t1\nS\t2\tU\t1\n" "........................." (gives 24) "S\t1\tR\nS\t2\tU\nO\t1\t1\nO\t1\t2\n."
    -- year numbers, as any other
    ∷ catalogue "S\t1987.14\tR\nS\t2003.1\tU\nO\t2003.1\t1987.14\nO\t1987.14\t1987.14\n"
    "......................................." (gives 38) "S\t1987.14\tR\t2003.1\t1987.14\nS\t2003.1\tU\n."
    ∷ uncatalogue "S\t1987.14\tR\t2003.1\t1987.14\nS\t2003.1\tU\n"
    "..........................................................." (gives 58)
    "S\t1987.14\tR\nS\t2003.1\tU\nO\t2003.1\t1987.14\nO\t1987.14\t1987.14\n."
    -- a line without objectors is the same in both forms
    ∷ catalogue "S\t1\tU\n" "......." (gives 6) "S\t1\tU\n."
    ∷ uncatalogue "S\t1\tU\n" "......." (gives 6) "S\t1\tU\n."
    -- a room that just fits, though it is shorter than the text; 10: "lent room shorter than the answer"
    ∷ catalogue "S\t1\tR\nO\t1\t1\n" "........" (gives 8) "S\t1\tR\t1\n"
    ∷ catalogue "S\t1\tR\nO\t1\t1\n" "......." (refuses 10 0) "......."
    ∷ catalogue "S\t1\tR\nO\t1\t1\n" "" (refuses 10 0) ""
    ∷ uncatalogue "S\t1\tR\t1\n" "............" (gives 12) "S\t1\tR\nO\t1\t1\n"
    ∷ uncatalogue "S\t1\tR\t1\n" "..........." (refuses 10 0) "..........."
    ∷ uncatalogue "S\t1\tR\t1\n" "" (refuses 10 0) ""
    -- the old form is refused "as in 01"; a catalogue is none
    ∷ catalogue "S\t1\tR\nO\t1\t1\nS\t2\tR\n" "." (refuses 4 3) "."
    ∷ catalogue "S\t1\tR\nO\t1\t1\nO\t1\t1\n" "." (refuses 8 3) "."
    ∷ catalogue "S\t1\tR\nO\t2\t1\nS\t2\tR\n" "." (refuses 7 2) "."
    ∷ catalogue "S\t1\tR\t1\n" "." (refuses 3 1) "."
    -- 2 comes before 3
    ∷ uncatalogue "S\t1\tR" "." (refuses 2 0) "."
    ∷ uncatalogue "S\t1\tR\nS\t2\tR\t" "." (refuses 2 0) "."
    ∷ uncatalogue "\nS" "." (refuses 2 0) "."
    -- 3, at the first line, in the middle and at the last: a blank line
    ∷ uncatalogue "\nS\t2\tR\n" "." (refuses 3 1) "."
    ∷ uncatalogue "S\t2\tR\n\nS\t3\tR\n" "." (refuses 3 2) "."
    ∷ uncatalogue "S\t2\tR\n\n" "." (refuses 3 2) "."
    -- a leading tab; a double one; a trailing one
    ∷ uncatalogue "\tS\t1\tR\nS\t2\tR\n" "." (refuses 3 1) "."
    ∷ uncatalogue "S\t2\tR\n\tS\t1\tR\nS\t3\tR\n" "." (refuses 3 2) "."
    ∷ uncatalogue "S\t2\tR\n\tS\t1\tR\n" "." (refuses 3 2) "."
    ∷ uncatalogue "S\t1\tR\t\t2\nS\t2\tR\n" "." (refuses 3 1) "."
    ∷ uncatalogue "S\t2\tR\nS\t1\tR\t\t2\nS\t3\tR\n" "." (refuses 3 2) "."
    ∷ uncatalogue "S\t2\tR\nS\t1\tR\t\t2\n" "." (refuses 3 2) "."
    ∷ uncatalogue "S\t1\tR\t\nS\t2\tR\n" "." (refuses 3 1) "."
    ∷ uncatalogue "S\t2\tR\nS\t1\tR\t\nS\t3\tR\n" "." (refuses 3 2) "."
    ∷ uncatalogue "S\t2\tR\nS\t1\tR\t\n" "." (refuses 3 2) "."
    -- byte 13
    ∷ uncatalogue "S\t1\tR\r\nS\t2\tR\n" "." (refuses 3 1) "."
    ∷ uncatalogue "S\t2\tR\nS\t1\tR\r\nS\t3\tR\n" "." (refuses 3 2) "."
    ∷ uncatalogue "S\t2\tR\nS\t1\tR\r\n" "." (refuses 3 2) "."
    -- a line of the old form; no mark
    ∷ uncatalogue "O\t2\t2\nS\t2\tR\n" "." (refuses 3 1) "."
    ∷ uncatalogue "S\t2\tR\nO\t2\t2\nS\t3\tR\n" "." (refuses 3 2) "."
    ∷ uncatalogue "S\t2\tR\nO\t2\t2\n" "." (refuses 3 2) "."
    ∷ uncatalogue "S\t1\nS\t2\tR\n" "." (refuses 3 1) "."
    ∷ uncatalogue "S\t2\tR\nS\t1\nS\t3\tR\n" "." (refuses 3 2) "."
    ∷ uncatalogue "S\t2\tR\nS\t1\n" "." (refuses 3 2) "."
    -- a tab too many or too few elsewhere; what is no mark; what is no number; a space
    ∷ uncatalogue "S\t\t1\tR\n" "." (refuses 3 1) "."
    ∷ uncatalogue "S\t1\t\tR\n" "." (refuses 3 1) "."
    ∷ uncatalogue "S\t1\tR\t1\t\t2\nS\t2\tR\n" "." (refuses 3 1) "."
    ∷ uncatalogue "S\t1\tR\t1\t\n" "." (refuses 3 1) "."
    ∷ uncatalogue "S\t1\tR1\n" "." (refuses 3 1) "."
    ∷ uncatalogue "S\t1\t2\n" "." (refuses 3 1) "."
    ∷ uncatalogue "S\t1\tR\t0\n" "." (refuses 3 1) "."
    ∷ uncatalogue "S\t1\tR\t1987.\n" "." (refuses 3 1) "."
    ∷ uncatalogue "S\t1\tR 1\n" "." (refuses 3 1) "."
    ∷ uncatalogue "S\t1\tR\t1\r\n" "." (refuses 3 1) "."
    -- 5
    ∷ uncatalogue "S\t1\tR\nS\t1\tR\n" "." (refuses 5 2) "."
    ∷ uncatalogue "S\t1\tR\nS\t2\tR\nS\t1\tU\nS\t3\tR\n" "." (refuses 5 3) "."
    -- 7, at each line; who is listed on no line
    ∷ uncatalogue "S\t1\tR\t9\nS\t2\tR\nS\t3\tR\n" "." (refuses 7 1) "."
    ∷ uncatalogue "S\t1\tR\nS\t2\tR\t1\t9\nS\t3\tR\n" "." (refuses 7 2) "."
    ∷ uncatalogue "S\t1\tR\nS\t2\tR\nS\t3\tR\t9\n" "." (refuses 7 3) "."
    -- 8, at each line; also where another stands between
    ∷ uncatalogue "S\t1\tR\t1\t1\nS\t2\tR\nS\t3\tR\n" "." (refuses 8 1) "."
    ∷ uncatalogue "S\t1\tR\nS\t2\tR\t1\t2\t1\nS\t3\tR\n" "." (refuses 8 2) "."
    ∷ uncatalogue "S\t1\tR\nS\t2\tR\nS\t3\tR\t2\t1\t1\n" "." (refuses 8 3) "."
    -- "3, 6, 5, 9 by line": the first line at fault, and 3 first within it
    ∷ uncatalogue "S\t1\tR\nS\t1\tR\n\n" "." (refuses 5 2) "."
    ∷ uncatalogue "S\t1\tR\n\nS\t1\tR\n" "." (refuses 3 2) "."
    ∷ uncatalogue "S\t1\tR\nS\t1\t\n" "." (refuses 3 2) "."
    -- "then over all lines 7, then 8": 3 and 5 come first, on an earlier line, a later one or the same
    ∷ uncatalogue "S\t1\tR\t9\n\n" "." (refuses 3 2) "."
    ∷ uncatalogue "\nS\t1\tR\t9\n" "." (refuses 3 1) "."
    ∷ uncatalogue "S\t1\tR\t1\t1\n\n" "." (refuses 3 2) "."
    ∷ uncatalogue "\nS\t1\tR\t1\t1\n" "." (refuses 3 1) "."
    ∷ uncatalogue "S\t1\tR\t9\nS\t1\tR\n" "." (refuses 5 2) "."
    ∷ uncatalogue "S\t1\tR\nS\t1\tR\nS\t2\tR\t9\n" "." (refuses 5 2) "."
    ∷ uncatalogue "S\t1\tR\t1\t1\nS\t1\tR\n" "." (refuses 5 2) "."
    ∷ uncatalogue "S\t1\tR\nS\t1\tR\nS\t2\tR\t1\t1\n" "." (refuses 5 2) "."
    ∷ uncatalogue "S\t1\tR\nS\t1\tR\t9\t9\n" "." (refuses 5 2) "."
    -- 7 before 8, in both orders of lines and within one
    ∷ uncatalogue "S\t1\tR\t1\t1\nS\t2\tR\t9\n" "." (refuses 7 2) "."
    ∷ uncatalogue "S\t1\tR\t9\nS\t2\tR\t1\t1\n" "." (refuses 7 1) "."
    ∷ uncatalogue "S\t1\tR\t9\t9\n" "." (refuses 7 1) "."
    ∷ uncatalogue "S\t1\tR\t1\t1\t9\n" "." (refuses 7 1) "."
    -- "each with the earliest line"
    ∷ uncatalogue "S\t1\tR\nS\t2\tR\t8\nS\t3\tR\t9\n" "." (refuses 7 2) "."
    ∷ uncatalogue "S\t1\tR\nS\t2\tR\t1\t1\nS\t3\tR\t1\t1\n" "." (refuses 8 2) "."
    ∷ []

-- The limits. A card of a read statement with these objectors.
abbrev pub card_with : (number : ℕ) (objectors : List ℕ) → Card
card_with number objectors = record { statement = record { number = number; mark = Read }; objectors = objectors }

pub record CatalogueLimits : Type 0 where
  -- "text over 65,535 bytes", whatever it is
  pub long : (s room : List ℕ) → 65535 < length s → InC (λ a. CatalogueText s room a room) (refuses 1 0)
  -- "1 with place 0 if the old form would be too long", however short the catalogue is, and whatever the room
  pub old_form_long : (R : Register) (room : List ℕ) → Valid R → 65535 < length (written R)
      → InC (λ a. CatalogueText (catalogued R) room a room) (refuses 1 0)
  pub catalogue_short : (R : Register) × Valid R × (65535 < length (written R)) × (length (catalogued R) ≤ 65535)
  -- behind 1,024 statements one line more is 6, whatever its number is and whoever objects
  pub statement_more : (R : Register) (c : Card) (room : List ℕ) → Valid R → length R.statements ≡ 1024 → CardFormed c
      → length (catalogued R ++ card_bytes c) ≤ 65535
      → InC (λ a. CatalogueText (catalogued R ++ card_bytes c) room a room) (refuses 6 1025)
  -- 4,096 objectors are accepted; 9: "the line with the 4,097th objector field of the text", unknown and repeated ones counted
  pub objectors : (R : Register) × Accepts (text_of 65 4096) R × ((Q : Register) × CatalogueAccepts (catalogued R) Q)
  pub objector_more : (ys zs room : List ℕ) → Each IsNumber ys → Each IsNumber zs → length ys ≤ 4096
      → length ys + length zs ≡ 4097
      → InC (λ a. CatalogueText (card_bytes (card_with 1 ys) ++ card_bytes (card_with 2 zs)) room a room) (refuses 9 2)
