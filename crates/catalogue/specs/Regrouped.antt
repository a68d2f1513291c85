-- From a register to its cards, and back. "Objectors keep the old form's order; going back, objections are grouped by target in
-- listed order."
use Rattle.std.specs.Prelude.{cond, List, map, [], ◌∷◌, ◌++◌, ℕ, ◌≤◌, ◌<◌, eqb, length, get_or}
use Rattle.register.specs.declared.StatementLine.{StatementLine}
use Rattle.register.specs.declared.ObjectionLine.{ObjectionLine}
use Rattle.register.specs.Register.{Register, targets_of}
use Rattle.catalogue.specs.Cards.{Card, cards_bytes}

-- the objectors of x, in the order of the objection lines
unfoldable pub against : List ObjectionLine → ℕ → List ℕ
against [] x = []
against (o ∷ O) x = cond (eqb o.target x) (o.objector ∷ against O x) (against O x)

-- the cards of a register, in listed order, and its catalogue
abbrev pub card_of : Register → StatementLine → Card
card_of R st = record { statement = st; objectors = against R.objections st.number }

abbrev pub cards : Register → List Card
cards R = map (card_of R) R.statements

abbrev pub catalogued : Register → List ℕ
catalogued R = cards_bytes (cards R)

-- the objections on a card, in the order of its fields; on all cards; the register that cards make
abbrev pub objections_on : Card → List ObjectionLine
objections_on c = map (λ (y : ℕ). record { objector = y; target = c.statement.number }) c.objectors

unfoldable pub all_objections : List Card → List ObjectionLine
all_objections [] = []
all_objections (c ∷ cs) = objections_on c ++ all_objections cs

abbrev pub all_statements : List Card → List StatementLine
all_statements cs = map (λ (c : Card). c.statement) cs

abbrev pub register_of : List Card → Register
register_of cs = record { statements = all_statements cs; objections = all_objections cs }

-- the register with its objections grouped by target in listed order
abbrev pub grouped : Register → Register
grouped R = register_of (cards R)

-- they stand so already: no target is listed behind that of a later objection
abbrev pub Grouped : Register → Type 0
Grouped R = (j k : ℕ) → j < k → k < length R.objections → get_or (targets_of R) j 0 ≤ get_or (targets_of R) k 0
