-- The catalogue of the register that lists hold: numbers and marks in listed order, objectors and targets by place. What a card
-- is, and which lists a register makes, is for others to say. For the code that writes, not for callers of the product.
use Rattle.std.specs.Prelude.{cond, List, [], ◌∷◌, ◌++◌, ◌≡◌, ℕ, ◌+◌, ◌≤◌, eqb, get_or, length}
use Rattle.lists.specs.declared.in_order.NumberedPairs.{NumberedPairs}
use Rattle.pair_chain.specs.Linked.{Linked}
use Rattle.pair_chain.specs.declared.Links.{Links}
use Rattle.register.specs.Lines.{mark_byte}
use Rattle.register.specs.Number.{number_bytes}
use Rattle.register.specs.Texts.{rows_to}
use Rattle.register_write.specs.Copied.{mark_of, Copyable}

-- the field of a number; of the objector of the objection e, on the card of each statement and on that of x
abbrev pub field_bytes : ℕ → List ℕ
field_bytes number = 9 ∷ number_bytes number

abbrev pub field_text : (nums objectors : List ℕ) → ℕ → List ℕ
field_text nums objectors e = field_bytes (get_or nums (get_or objectors e 0) 0)

abbrev pub field_against : (nums objectors targets : List ℕ) → ℕ → ℕ → List ℕ
field_against nums objectors targets x e = cond (eqb (get_or targets e 0) x) (field_text nums objectors e) []

-- all fields of x, in the order of the objection lines
abbrev pub fields_text : (nums objectors targets : List ℕ) → ℕ → List ℕ
fields_text nums objectors targets x = rows_to (length objectors) (field_against nums objectors targets x)

-- a card up to its mark
abbrev pub mark_tab : (mark : ℕ) → List ℕ
mark_tab mark = 9 ∷ mark_byte (mark_of mark) ∷ []

abbrev pub card_begin : (number mark : ℕ) → List ℕ
card_begin number mark = 83 ∷ 9 ∷ (number_bytes number ++ mark_tab mark)

-- the card of the statement x; all cards
abbrev pub card_text : (nums marks objectors targets : List ℕ) → ℕ → List ℕ
card_text nums marks objectors targets x =
    card_begin (get_or nums x 0) (get_or marks x 0) ++ (fields_text nums objectors targets x ++ (10 ∷ []))

abbrev pub catalogued_lists : (nums marks objectors targets : List ℕ) → List ℕ
catalogued_lists nums marks objectors targets = rows_to (length nums) (card_text nums marks objectors targets)

-- the places, the last one first
abbrev pub Turned : (places turned : List ℕ) → Type 0
Turned places turned = (e i : ℕ) → e + i + 1 ≡ length places → get_or turned i 0 ≡ get_or places e 0

-- The objections are chained by target from the last one on: a walk along a chain meets them in the order of their lines, since
-- what is chained latest was the first.
pub record ChainedBack (targets head next : List ℕ) : Type 0 where
  pub turned : List ℕ
  pub is_turned : Turned targets turned
  pub linked : Linked turned (length head) (length targets) (λ x. get_or head x 0) (λ i. get_or next i 0)
  pub next_room : length targets ≤ length next

-- lists within the limits, whose places are among the numbers, and their chains
pub record Writable (nums objectors targets head next : List ℕ) : Type 0 where
  pub copyable : Copyable nums objectors targets
  pub chained : ChainedBack targets head next
  pub head_room : length nums ≤ length head

-- The same of a register that is lent as one value: its fields and cards, and its chains.
abbrev pub register_field : NumberedPairs → ℕ → List ℕ
register_field r = field_text r.numbers.now r.pairs.objectors.now

abbrev pub register_fields : NumberedPairs → ℕ → List ℕ
register_fields r = fields_text r.numbers.now r.pairs.objectors.now r.pairs.targets.now

abbrev pub register_card : NumberedPairs → ℕ → List ℕ
register_card r = card_text r.numbers.now r.pairs.marks.now r.pairs.objectors.now r.pairs.targets.now

abbrev pub register_cards : NumberedPairs → List ℕ
register_cards r = catalogued_lists r.numbers.now r.pairs.marks.now r.pairs.objectors.now r.pairs.targets.now

abbrev pub Chained : NumberedPairs → Links → Type 0
Chained r links = Writable r.numbers.now r.pairs.objectors.now r.pairs.targets.now links.head.now links.next.now
