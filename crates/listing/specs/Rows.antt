-- The rows of a listing, byte by byte: the header, that of a statement and that of an objection with what is told of them, and
-- the one line of a refusal. Which rows a listing has, and in which order, `Listing` says.
use Rattle.std.specs.Prelude.{List, [], ◌∷◌, ◌++◌, ℕ}
use Rattle.std.proofs.Math.Option.{Option, some, none}
use Rattle.game.specs.Account.{Account}
use Rattle.register.specs.Texts.{decimal}
use Rattle.register.specs.Number.{number_bytes}

-- `REGISTER`
abbrev pub register_word : List ℕ
register_word = 82 ∷ 69 ∷ 71 ∷ 73 ∷ 83 ∷ 84 ∷ 69 ∷ 82 ∷ []

-- `REFUSED`
abbrev pub refused_word : List ℕ
refused_word = 82 ∷ 69 ∷ 70 ∷ 85 ∷ 83 ∷ 69 ∷ 68 ∷ []

-- a length in decimals; what has none has `-` there
abbrev pub length_field : Option ℕ → List ℕ
length_field none = 45 ∷ []
length_field (some n) = decimal n

-- what is told of a statement or an objection: the word and the length, with the tab between them
abbrev pub account_fields : Account → List ℕ
account_fields a = a.word ++ (9 ∷ length_field a.turns)

-- "Lines of text, fields parted by one tab (byte 9), every line ended by byte 10." A word and two numbers:
unfoldable pub numbers_row : (word : List ℕ) → (first second : ℕ) → List ℕ
numbers_row word a b = word ++ (9 ∷ (decimal a ++ (9 ∷ (decimal b ++ (10 ∷ [])))))

abbrev pub header : (statements objections : ℕ) → List ℕ
header n m = numbers_row register_word n m

-- "A refused input prints one line: `REFUSED`, number, place, parted by tabs."
abbrev pub refused_row : (number place : ℕ) → List ℕ
refused_row number place = numbers_row refused_word number place

unfoldable pub statement_row : (number : ℕ) → Account → List ℕ
statement_row number a = number_bytes number ++ (9 ∷ (account_fields a ++ (10 ∷ [])))

unfoldable pub objection_row : (objector target : ℕ) → Account → List ℕ
objection_row y x a = number_bytes y ++ (9 ∷ (number_bytes x ++ (9 ∷ (account_fields a ++ (10 ∷ [])))))
