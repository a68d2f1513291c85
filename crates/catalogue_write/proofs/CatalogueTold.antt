-- What is written of the lists that a register makes is its catalogue.
use mathlib.Core.Bool.{Bool, cond, true, false}
use mathlib.Core.List.{List, map, append_assoc, [], ◌∷◌, ◌++◌}
use mathlib.Core.Path.{refl, ap, ap₂, sym, ◌≡◌, ◌∙◌}
use Prim.Native.Nat.{ℕ, ◌<◌}
use native.Mathlib.Decide.{ℕ_discrete}
use native.Mathlib.Omega.{arith}
use lib.Dec.{eqb}
use lib.ListN.{length, get_or, length-map}
use borrow.Author.Tests.{eq-eqb, ne_eqb}
use Rattle.register.specs.Number.{number_bytes}
use Rattle.register.specs.Lines.{mark_byte, mark_number}
use Rattle.register.specs.declared.Mark.{Mark}
use Rattle.register.specs.declared.StatementLine.{StatementLine}
use Rattle.register.specs.declared.ObjectionLine.{ObjectionLine}
use Rattle.register.specs.Register.{Register, Valid, numbers, marks_of, objectors_of, targets_of, objector_numbers}
use Rattle.register.specs.Register.{target_numbers}
use Rattle.register.specs.Texts.{rows_to}
use Rattle.register.proofs.Order.{number_there, numbers_counted, objectors_counted, place_once, register_in_order}
use Rattle.register.proofs.Order.{marks_counted}
use Rattle.register.proofs.TextRows.{no_rows, row_first, rows_same}
use Rattle.register_read.specs.ReadState.{Made}
use Rattle.register_write.proofs.Copied.{mark_back}
use Rattle.catalogue.specs.Cards.{card_bytes, cards_bytes, fields_bytes}
use Rattle.catalogue.specs.Regrouped.{against, card_of, catalogued}
use Rattle.catalogue_write.specs.CatalogueRows.{field_bytes, field_against, fields_text, card_begin, card_text}
use Rattle.catalogue_write.specs.CatalogueRows.{catalogued_lists}

-- the field of the objection e on the card of the number v, by the numbers of objection lines
abbrev field_of : List ObjectionLine → ℕ → ℕ → List ℕ
field_of O v e =
    cond (eqb (get_or (map (λ (o : ObjectionLine). o.target) O) e 0) v)
    (field_bytes (get_or (map (λ (o : ObjectionLine). o.objector) O) e 0)) []

fields_of : (O : List ObjectionLine) (v : ℕ) → rows_to (length O) (field_of O v) ≡ fields_bytes (against O v)
unfolding against fields_bytes
fields_of [] v = no_rows (field_of [] v)
fields_of (o ∷ O) v =
    row_first (field_of (o ∷ O) v) (length O) ∙ ap (λ u. field_of (o ∷ O) v 0 ++ u) (fields_of O v) ∙ go (eqb o.target v)
  where
    go : (b : Bool) → cond b (field_bytes o.objector) [] ++ fields_bytes (against O v) ≡ fields_bytes
        (cond b (o.objector ∷ against O v) (against O v))
    go true = refl
    go false = refl

module _ (R : Register) where
  -- the card of the statement i of S, by the numbers and marks of statement lines
  abbrev card_at : List StatementLine → ℕ → List ℕ
  card_at S i =
      let number = get_or (map (λ (st : StatementLine). st.number) S) i 0 in
      card_begin number (get_or (map (λ (st : StatementLine). mark_number st.mark) S) i 0)
      ++ (fields_bytes (against R.objections number) ++ (10 ∷ []))

  card_whole : (st : StatementLine) → card_at (st ∷ []) 0 ≡ card_bytes (card_of R st)
  card_whole st =
      let rest : List ℕ = fields_bytes (against R.objections st.number) ++ (10 ∷ []) in
      ap (λ (m : Mark). (83 ∷ 9 ∷ (number_bytes st.number ++ (9 ∷ mark_byte m ∷ []))) ++ rest) (mark_back st.mark)
      ∙ ap (λ u. 83 ∷ 9 ∷ u) (append_assoc (number_bytes st.number) (9 ∷ mark_byte st.mark ∷ []) rest)

  cards_are : (S : List StatementLine) → rows_to (length S) (card_at S) ≡ cards_bytes (map (card_of R) S)
  unfolding cards_bytes
  cards_are [] = no_rows (card_at [])
  cards_are (st ∷ S) =
      row_first (card_at (st ∷ S)) (length S) ∙ ap₂ (λ u v. u ++ v) (card_whole st) (cards_are S)

module _ (R : Register) (valid : Valid R) where
  -- an objection is against the statement x exactly if its target has the number there
  same_test : (x e : ℕ) → x < length (numbers R) → e < length R.objections
      → eqb (get_or (targets_of R) e 0) x ≡ eqb (get_or (target_numbers R) e 0) (get_or (numbers R) x 0)
  same_test x e h k = go (ℕ_discrete (get_or (targets_of R) e 0) x)
    where
      there : get_or (numbers R) (get_or (targets_of R) e 0) 0 ≡ get_or (target_numbers R) e 0
      there =
          number_there R (target_numbers R) e (omega (arith, length-map R.objections (λ (o : ObjectionLine). o.target)))
          (valid.known e k).1

      listed : get_or (targets_of R) e 0 < length (numbers R)
      listed =
          omega (
            arith,
            (register_in_order R valid).target e (omega (arith, objectors_counted R valid)),
            marks_counted R valid,
            numbers_counted R,
          )

      go : Dec (get_or (targets_of R) e 0 ≡ x)
          → eqb (get_or (targets_of R) e 0) x ≡ eqb (get_or (target_numbers R) e 0) (get_or (numbers R) x 0)
      go (yes p) =
          eq-eqb (get_or (targets_of R) e 0) x p
          ∙ sym (eq-eqb (get_or (target_numbers R) e 0) (get_or (numbers R) x 0) (sym there ∙ ap (λ i. get_or (numbers R) i 0) p))
      go (no p) =
          ne_eqb (get_or (targets_of R) e 0) x p
          ∙ sym (ne_eqb (get_or (target_numbers R) e 0) (get_or (numbers R) x 0)
          (λ q. p (place_once R valid (get_or (target_numbers R) e 0) (get_or (targets_of R) e 0) x (listed, there) (h, sym q))))

  own_field : (x e : ℕ) → x < length (numbers R) → e < length R.objections
      → field_against (numbers R) (objectors_of R) (targets_of R) x e ≡ field_of R.objections (get_or (numbers R) x 0) e
  own_field x e h k =
      ap₂ (λ b n. cond b (field_bytes n) []) (same_test x e h k)
      (number_there R (objector_numbers R) e (omega (arith, length-map R.objections (λ (o : ObjectionLine). o.objector)))
      (valid.known e k).0)

  own_fields : (x : ℕ) → x < length (numbers R) → fields_text (numbers R) (objectors_of R) (targets_of R) x ≡ fields_bytes
      (against R.objections (get_or (numbers R) x 0))
  own_fields x h =
      ap (λ m. rows_to m (field_against (numbers R) (objectors_of R) (targets_of R) x)) (objectors_counted R valid)
      ∙ rows_same (length R.objections) (field_against (numbers R) (objectors_of R) (targets_of R) x)
      (field_of R.objections (get_or (numbers R) x 0)) (λ e k. own_field x e h k)
      ∙ fields_of R.objections (get_or (numbers R) x 0)

  own_card : (x : ℕ) → x < length (numbers R)
      → card_text (numbers R) (marks_of R) (objectors_of R) (targets_of R) x ≡ card_at R R.statements x
  own_card x h =
      ap (λ u. card_begin (get_or (numbers R) x 0) (get_or (marks_of R) x 0) ++ (u ++ (10 ∷ []))) (own_fields x h)

  own_catalogue : catalogued_lists (numbers R) (marks_of R) (objectors_of R) (targets_of R) ≡ catalogued R
  own_catalogue =
      rows_same (length (numbers R)) (card_text (numbers R) (marks_of R) (objectors_of R) (targets_of R))
      (card_at R R.statements) own_card
      ∙ ap (λ n. rows_to n (card_at R R.statements)) (numbers_counted R)
      ∙ cards_are R R.statements

-- what was read of a register is written as its catalogue
pub lists_catalogued : (R : Register) (nums marks objectors targets : List ℕ) → Made R nums marks objectors targets
    → catalogued_lists nums marks objectors targets ≡ catalogued R
lists_catalogued R nums marks objectors targets made =
    rw (made.numbers_are, made.marks_are, made.objectors_are, made.targets_are) (own_catalogue R made.valid)
