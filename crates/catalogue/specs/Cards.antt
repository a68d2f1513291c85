-- The lines of a catalogue, called cards: their bytes, and which bytes begin with one. "Cataloguers want each statement on one
-- line with its objectors behind it: `S`, number, mark, then each objector as a further field." Numbers and marks are those of
-- `register`.
use Rattle.std.specs.Prelude.{List, [], ◌∷◌, ◌++◌, ◌≡◌, ℕ}
use Rattle.register.specs.Number.{number_bytes, IsNumber}
use Rattle.register.specs.Lines.{mark_byte}
use Rattle.register.specs.declared.StatementLine.{StatementLine}

-- a statement, and the numbers of its objectors
pub record Card : Type 0 where
  pub statement : StatementLine
  pub objectors : List ℕ

-- each number as a further field: behind a tab
unfoldable pub fields_bytes : List ℕ → List ℕ
fields_bytes [] = []
fields_bytes (y ∷ ys) = 9 ∷ (number_bytes y ++ fields_bytes ys)

abbrev pub card_bytes : Card → List ℕ
card_bytes c =
    83 ∷ 9 ∷ (number_bytes c.statement.number
    ++ (9 ∷ mark_byte c.statement.mark ∷ (fields_bytes c.objectors ++ (10 ∷ []))))

unfoldable pub cards_bytes : List Card → List ℕ
cards_bytes [] = []
cards_bytes (c ∷ cs) = card_bytes c ++ cards_bytes cs

-- it holds of each
abbrev pub Each : {A : Type 0} → (A → Type 0) → List A → Type 0
Each P [] = Unit {0}
Each P (a ∷ l) = P a × Each P l

-- a card's numbers are numbers
abbrev pub CardFormed : Card → Type 0
CardFormed c = IsNumber c.statement.number × Each IsNumber c.objectors

-- bytes that begin with the card c; a line that is none is spoiled
abbrev pub BeginsWithCard : Card → List ℕ → Type 0
BeginsWithCard c s = CardFormed c × ((rest : List ℕ) × (s ≡ card_bytes c ++ rest))
