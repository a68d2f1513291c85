-- What reading a line answers, and the parts of a line on the way to it: for the code that reads texts, not for callers of the
-- product.
use Rattle.std.specs.Prelude.{Option, Some, None, List, [], ◌∷◌, ◌++◌, ◌≡◌, ℕ, ◌≤◌, ◌<◌, length, drop}
use Rattle.register.specs.Number.{number_bytes, IsNumber}
use Rattle.register.specs.Lines.{mark_byte, WellFormed, line_bytes, BeginsWith}
use Rattle.register.specs.declared.Mark.{Mark}
use Rattle.register.specs.declared.Line.TheVariants.{Statement, Objection}
use Rattle.register.specs.declared.Line.{Line}

-- the bytes of a statement line, and of an objection line, behind the first tab
abbrev pub statement_tail : ℕ → Mark → List ℕ
statement_tail n m = number_bytes n ++ (9 ∷ mark_byte m ∷ 10 ∷ [])

abbrev pub objection_tail : ℕ → ℕ → List ℕ
objection_tail y x = number_bytes y ++ (9 ∷ (number_bytes x ++ (10 ∷ [])))

-- what a byte is told to be: the mark that is written so, or none
abbrev pub MarkOf : ℕ → Option Mark → Type 0
MarkOf b (Some m) = b ≡ mark_byte m
MarkOf b None = (m : Mark) → b ≡ mark_byte m → ⊥

-- what reading such a tail answers; the other kind of line is never read from it
abbrev pub GotStatement : List ℕ → ℕ → Option (Line × ℕ) → Type 0
GotStatement s at (Some (Statement st, next)) =
    IsNumber st.number × (at < next) × (next ≤ length s) × (drop at s ≡ statement_tail st.number st.mark ++ drop next s)
GotStatement s at (Some (Objection o, next)) = ⊥
GotStatement s at None = (n : ℕ) (m : Mark) (rest : List ℕ) → IsNumber n → drop at s ≡ statement_tail n m ++ rest → ⊥

abbrev pub GotObjection : List ℕ → ℕ → Option (Line × ℕ) → Type 0
GotObjection s at (Some (Objection o, next)) =
    IsNumber o.objector × IsNumber o.target × (at < next) × (next ≤ length s)
    × (drop at s ≡ objection_tail o.objector o.target ++ drop next s)
GotObjection s at (Some (Statement st, next)) = ⊥
GotObjection s at None = (y x : ℕ) (rest : List ℕ) → IsNumber y → IsNumber x → drop at s ≡ objection_tail y x ++ rest → ⊥

-- what reading the line at a place answers: the line and where the next one starts, or that no line stands there
abbrev pub GotAt : List ℕ → ℕ → Option (Line × ℕ) → Type 0
GotAt s at (Some (l, next)) = WellFormed l × (at < next) × (next ≤ length s) × (drop at s ≡ line_bytes l ++ drop next s)
GotAt s at None = (l : Line) → ¬ BeginsWith l (drop at s)
