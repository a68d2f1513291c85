-- How long a catalogue is, beside the old form of the same register, and that grouping its objections changes no length. Each
-- length is a sum over the cards, and by one law such a sum is one over the objections: each stands on exactly one card.
use mathlib.Core.List.{List, map, map-append, [], ◌∷◌, ◌++◌}
use mathlib.Core.Logic.{◌↔◌}
use mathlib.Core.Path.{refl, ap, sym, ◌≡◌, ◌∙◌}
use Prim.Native.Nat.{ℕ, suc, zero, ◌+◌, ◌≤◌, ◌<◌}
use native.Mathlib.Nat.{not-suc-le-zero, le_of_suc-le-suc}
use native.Mathlib.Omega.{arith}
use lib.ListN.{length, get_or, length-append}
use Rattle.register.specs.Number.{number_bytes}
use Rattle.register.specs.Lines.{line_bytes}
use Rattle.register.specs.declared.StatementLine.{StatementLine}
use Rattle.register.specs.declared.ObjectionLine.{ObjectionLine}
use Rattle.register.specs.declared.Line.TheVariants.{Statement, Objection}
use Rattle.register.specs.Register.{Register, Valid, bare, bytes, written, numbers, Issued}
use Rattle.register.proofs.Order.{place_once}
use Rattle.register.proofs.OneMore.{bytes_append}
use Rattle.catalogue.specs.Cards.{Card, card_bytes, cards_bytes, fields_bytes}
use Rattle.catalogue.specs.Regrouped.{against, cards, catalogued, grouped, objections_on, all_objections}
use Rattle.catalogue.specs.Saved.{saved}
use Rattle.catalogue.proofs.Against.{against_on, against_other}
use Rattle.catalogue.proofs.Regrouped.{same_statements}

-- the card of a statement, and the cards of some, where these are the objections
abbrev card : List ObjectionLine → StatementLine → Card
card O st = record { statement = st; objectors = against O st.number }

abbrev dealt : List ObjectionLine → List StatementLine → List Card
dealt O S = map (card O) S

-- a sum over a list
unfoldable total : {A : Type 0} → (A → ℕ) → List A → ℕ
total w [] = 0
total w (a ∷ l) = w a + total w l

-- w of a card grows by d with each objection on it.
module _ (w : Card → ℕ) (d : ObjectionLine → ℕ)
    (grows : (c : Card) (y : ℕ) → w (record { statement = c.statement; objectors = y ∷ c.objectors })
    ≡ d (record { objector = y; target = c.statement.number }) + w c) where
  module _ (o : ObjectionLine) (O : List ObjectionLine) where
    -- the card of another statement stays, and that of the target grows
    other : (st : StatementLine) → (o.target ≡ st.number → ⊥) → card (o ∷ O) st ≡ card O st
    other st n = ap (λ u. record { statement = st; objectors = u }) (against_other o O st.number n)

    own : (st : StatementLine) → o.target ≡ st.number → w (card (o ∷ O) st) ≡ d o + w (card O st)
    own st e =
        ap (λ u. w (record { statement = st; objectors = u })) (against_on o O st.number e) ∙ grows (card O st) o.objector
        ∙ ap (λ n. d (record { objector = o.objector; target = n }) + w (card O st)) (sym e)

    none : (S : List StatementLine) → ¬ Issued (bare S) o.target → total w (dealt (o ∷ O) S) ≡ total w (dealt O S)
    unfolding total
    none [] n = refl
    none (st ∷ S) n =
        let e = ap w (other st (λ e. n (0, omega arith, sym e))) in
        let r = none S (λ (i, h, q). n (suc i, omega arith, q)) in omega arith

    once : (S : List StatementLine) (i : ℕ) → i < length (numbers (bare S)) → get_or (numbers (bare S)) i 0 ≡ o.target
        → ((j : ℕ) → j < length (numbers (bare S)) → get_or (numbers (bare S)) j 0 ≡ o.target → j ≡ i)
        → total w (dealt (o ∷ O) S) ≡ d o + total w (dealt O S)
    unfolding total
    once [] i h e u = absurd (not-suc-le-zero h)
    once (st ∷ S) zero h e u =
        let a = own st (sym e) in
        let r = none S (λ (j, k, q). let z = u (suc j) (omega arith) q in omega arith) in omega arith
    once (st ∷ S) (suc i) h e u =
        let a = ap w (other st (λ q. let z = u 0 (omega arith) (sym q) in omega arith)) in
        let r = once S i (le_of_suc-le-suc h) e (λ j k q. let z = u (suc j) (omega arith) q in omega arith) in omega arith

  -- over the cards it is what it was without objections, and the sum over the objections
  by_objections : (R : Register) → Valid R → total w (cards R) ≡ total d R.objections + total w (dealt [] R.statements)
  unfolding total
  by_objections R v = go R.objections (λ k h. (v.known k h).1)
    where
      go : (O : List ObjectionLine)
          → ((k : ℕ) → k < length O → Issued R (get_or (map (λ (o : ObjectionLine). o.target) O) k 0))
          → total w (dealt O R.statements) ≡ total d O + total w (dealt [] R.statements)
      go [] known = omega arith
      go (o ∷ O) known =
          let (i, h, e) = known 0 (omega arith) in
          let a = once o O R.statements i h e (λ j k q. place_once R v o.target j i (k, q) (h, e)) in
          let r = go O (λ k h. known (suc k) (omega arith)) in omega arith

-- How long a card is, with one field more, and with none; and the objections on it.
length_card : (c : Card)
    → length (card_bytes c) ≡ length (number_bytes c.statement.number) + length (fields_bytes c.objectors) + 5
length_card c = simp length-append (omega arith)

length_objection : (o : ObjectionLine)
    → length (line_bytes (Objection o)) ≡ length (number_bytes o.objector) + length (number_bytes o.target) + 4
length_objection o = simp length-append (omega arith)

abbrev card_length : Card → ℕ
card_length c = length (card_bytes c)

abbrev old_length : Card → ℕ
old_length c = length (bytes (map Objection (objections_on c)))

abbrev field_length : ObjectionLine → ℕ
field_length o = suc (length (number_bytes o.objector))

abbrev line_length : ObjectionLine → ℕ
line_length o = length (line_bytes (Objection o))

card_grows : (c : Card) (y : ℕ) → card_length (record { statement = c.statement; objectors = y ∷ c.objectors })
    ≡ field_length (record { objector = y; target = c.statement.number }) + card_length c
unfolding fields_bytes
card_grows c y = omega (
  arith,
  length_card c,
  length_card (record { statement = c.statement; objectors = y ∷ c.objectors }),
  length-append (number_bytes y) (fields_bytes c.objectors),
)

old_grows : (c : Card) (y : ℕ) → old_length (record { statement = c.statement; objectors = y ∷ c.objectors })
    ≡ line_length (record { objector = y; target = c.statement.number }) + old_length c
unfolding bytes
old_grows c y =
    length-append (line_bytes (Objection (record { objector = y; target = c.statement.number })))
    (bytes (map Objection (objections_on c)))

-- the length of pieces one behind the other is the sum of theirs
length_pieces : {A : Type 0} (piece : A → List ℕ) (whole : List A → List ℕ) → whole [] ≡ []
    → ((a : A) (l : List A) → whole (a ∷ l) ≡ piece a ++ whole l)
    → (l : List A) → length (whole l) ≡ total (λ a. length (piece a)) l
unfolding total
length_pieces piece whole nil more [] = ap length nil
length_pieces piece whole nil more (a ∷ l) =
    ap length (more a l) ∙ length-append (piece a) (whole l)
    ∙ ap (λ n. length (piece a) + n) (length_pieces piece whole nil more l)

length_cards : (cs : List Card) → length (cards_bytes cs) ≡ total card_length cs
unfolding cards_bytes
length_cards = length_pieces card_bytes cards_bytes refl (λ c cs. refl)

length_objections : (O : List ObjectionLine) → length (bytes (map Objection O)) ≡ total line_length O
unfolding bytes
length_objections = length_pieces (λ o. line_bytes (Objection o)) (λ O. bytes (map Objection O)) refl (λ o O. refl)

-- without objections cards are statement lines, and no old form is behind them
bare_cards : (S : List StatementLine) → cards_bytes (dealt [] S) ≡ bytes (map Statement S)
unfolding cards_bytes bytes fields_bytes against
bare_cards [] = refl
bare_cards (st ∷ S) = ap (λ u. line_bytes (Statement st) ++ u) (bare_cards S)

bare_old : (S : List StatementLine) → total old_length (dealt [] S) ≡ 0
unfolding total bytes against
bare_old [] = refl
bare_old (st ∷ S) = omega (arith, bare_old S)

length_written : (R : Register)
    → length (written R) ≡ length (bytes (map Statement R.statements)) + total line_length R.objections
length_written R =
    ap length (bytes_append (map Statement R.statements) (map Objection R.objections))
    ∙ length-append (bytes (map Statement R.statements)) (bytes (map Objection R.objections))
    ∙ ap (λ n. length (bytes (map Statement R.statements)) + n) (length_objections R.objections)

-- a line is its target's number and 3 bytes longer than the field
lines_saved : (O : List ObjectionLine) → total line_length O ≡ total field_length O + saved O
unfolding total saved
lines_saved [] = refl
lines_saved (o ∷ O) = omega (arith, lines_saved O, length_objection o)

pub catalogue_shorter : (R : Register) → Valid R → length (written R) ≡ length (catalogued R) + saved R.objections
catalogue_shorter R v = omega (
  arith,
  length_written R,
  lines_saved R.objections,
  length_cards (cards R),
  by_objections card_length field_length card_grows R v,
  length_cards (dealt [] R.statements),
  ap length (bare_cards R.statements),
)

pub never_longer : (R : Register) → Valid R → length (catalogued R) ≤ length (written R)
never_longer R v = omega (arith, catalogue_shorter R v)

pub as_long_exactly : (R : Register) → Valid R → (length (catalogued R) ≡ length (written R)) ↔ (length R.objections ≡ 0)
unfolding saved
as_long_exactly R v = (
  λ e. (nothing_saved R.objections).0 (omega (arith, catalogue_shorter R v)),
  λ e. omega (arith, catalogue_shorter R v, (nothing_saved R.objections).1 e),
)
  where
    nothing_saved : (O : List ObjectionLine) → (saved O ≡ 0) ↔ (length O ≡ 0)
    nothing_saved [] = (λ e. refl, λ e. refl)
    nothing_saved (o ∷ O) = (λ e. absurd (omega arith), λ e. absurd (omega arith))

-- Grouping leaves the statements, and each objection on one card.
length_grouped : (cs : List Card) → length (bytes (map Objection (all_objections cs))) ≡ total old_length cs
unfolding bytes all_objections
length_grouped = length_pieces (λ c. bytes (map Objection (objections_on c))) (λ cs. bytes (map Objection (all_objections cs)))
    refl
    (λ c cs. ap bytes (map-append Objection (objections_on c) (all_objections cs))
    ∙ bytes_append (map Objection (objections_on c)) (map Objection (all_objections cs)))

pub grouped_length : (R : Register) → Valid R → length (written (grouped R)) ≡ length (written R)
grouped_length R v = omega (
  arith,
  length_written R,
  length_written (grouped R),
  ap (λ S. length (bytes (map Statement S))) (same_statements R),
  length_objections (grouped R).objections,
  length_grouped (cards R),
  by_objections old_length line_length old_grows R v,
  bare_old R.statements,
)
