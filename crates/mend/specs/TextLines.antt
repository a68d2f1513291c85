-- The lines of any text, accepted or not. Every line ends with a byte 10; what is left behind the last of them is an unended
-- line. What is done with a line is for others to say.
use Rattle.std.specs.Prelude.{List, [], ◌∷◌, ◌++◌, ◌≡◌, ℕ, ◌<◌, length, get_or}
use Rattle.register.specs.Lines.{WellFormed, line_bytes, BeginsWith}
use Rattle.register.specs.declared.StatementLine.{StatementLine}
use Rattle.register.specs.declared.ObjectionLine.{ObjectionLine}
use Rattle.register.specs.declared.Line.{Line}
use Rattle.register.specs.declared.Line.TheVariants.{Statement, Objection}

pub data TextLine : Type 0 where
  good : Line → TextLine
  spoiled unended : TextLine

-- no byte is 10
abbrev pub Unbroken : List ℕ → Type 0
Unbroken s = (i : ℕ) → i < length s → get_or s i 0 ≡ 10 → ⊥

-- The lines of s, in order. A good line is a statement or an objection; a spoiled one goes up to the next byte 10 and is of
-- neither kind; an unended one is the last, whatever it holds.
unfoldable pub LinesOf : List ℕ → List TextLine → Type 0
LinesOf s [] = s ≡ []
LinesOf s (good l ∷ ls) = (rest : List ℕ) × WellFormed l × (s ≡ line_bytes l ++ rest) × LinesOf rest ls
LinesOf s (spoiled ∷ ls) =
    (w : List ℕ) × (rest : List ℕ) × Unbroken w × (s ≡ w ++ (10 ∷ rest)) × ((l : Line) → ¬ BeginsWith l s) × LinesOf rest ls
LinesOf s (unended ∷ ls) = (0 < length s) × Unbroken s × (ls ≡ [])

-- the line k, counted from 0, is this statement; this objection
abbrev pub StatementAt : List TextLine → ℕ → StatementLine → Type 0
StatementAt ls k st = (k < length ls) × (get_or ls k spoiled ≡ good (Statement st))

abbrev pub ObjectionAt : List TextLine → ℕ → ObjectionLine → Type 0
ObjectionAt ls k o = (k < length ls) × (get_or ls k spoiled ≡ good (Objection o))
