-- Laws of the number fields of cards: a catalogue has the numbers of its cards and no others, and each card's own number has a
-- tab behind it. What is written by which call is left to `IssuedNumbers`.
use mathlib.Core.List.{List, append_assoc, [], ◌∷◌, ◌++◌}
use mathlib.Core.Logic.{inl, inr}
use mathlib.Core.Path.{refl, subst, sym, ◌≡◌}
use Prim.Native.Nat.{ℕ, zero, suc}
use native.Mathlib.Nat.{not-suc-le-zero, le_of_suc-le-suc}
use Rattle.register.specs.Number.{IsNumber, number_bytes}
use Rattle.register.specs.Lines.{mark_byte}
use Rattle.catalogue.specs.Cards.{Card, Each, CardFormed, card_bytes, cards_bytes, fields_bytes}
use Rattle.catalogue.specs.CatalogueReads.{ListedIn}
use Rattle.promises.specs.IssuedNumbers.{EndsField, WholeFields, Field}
use Rattle.promises.proofs.Fields.{number_first, field_behind, statement_word, mark_word, Only, only_none}
use Rattle.promises.proofs.Fields.{only_number, only_word}

-- a card, and what stands behind it
card_then : (c : Card) (rest : List ℕ) → 83 ∷ 9 ∷ (number_bytes c.statement.number ++ (9 ∷ (mark_byte c.statement.mark
    ∷ (fields_bytes c.objectors ++ (10 ∷ rest))))) ≡ card_bytes c ++ rest
card_then c rest = simp append_assoc

-- Only such numbers as P has stand on cards whose numbers P has.
module _ (P : ℕ → Type 0) where
  abbrev None : List ℕ → Type 0
  None = Only P EndsField (λ e h. h)

  abbrev Had : ℕ → Type 0
  Had n = IsNumber n × P n

  -- behind a first field, whatever it is, as long as it passes with either end
  only_fields : (w : List ℕ) → ((b : ℕ) (t : List ℕ) → EndsField b → None t → None (w ++ (b ∷ t))) → (ys : List ℕ) → Each Had ys
      → (rest : List ℕ) → None rest → None (w ++ (fields_bytes ys ++ (10 ∷ rest)))
  unfolding fields_bytes
  only_fields w first [] e rest o = first 10 rest (inr refl) o
  only_fields w first (y ∷ ys) ((h, p), e) rest o =
      subst (λ u. None (w ++ (9 ∷ u))) (sym (append_assoc (number_bytes y) (fields_bytes ys) (10 ∷ rest)))
      (first 9 (number_bytes y ++ (fields_bytes ys ++ (10 ∷ rest))) (inl refl)
      (only_fields (number_bytes y) (λ b t k. only_number P EndsField (λ e h. h) y b t h p k) ys e rest o))

  pub only_cards : (cs : List Card) → Each (λ (c : Card). Had c.statement.number × Each Had c.objectors) cs
      → None (cards_bytes cs)
  unfolding cards_bytes
  only_cards [] e = only_none P EndsField (λ e h. h)
  only_cards (c ∷ cs) (((h, p), own), e) =
      subst None (card_then c (cards_bytes cs)) (only_word P EndsField (λ e h. h) (83 ∷ []) _ 9 statement_word (inl refl)
      (only_number P EndsField (λ e h. h) c.statement.number 9 _ h p (inl refl)
      (only_fields (mark_byte c.statement.mark ∷ [])
      (λ b t k. only_word P EndsField (λ e h. h) (mark_byte c.statement.mark ∷ []) t b (mark_word c.statement.mark) k)
      c.objectors own (cards_bytes cs) (only_cards cs e))))

-- a card ends where a field does
card_whole : (c : Card) → WholeFields (card_bytes c)
card_whole c =
    inr (
      83 ∷ 9 ∷ (number_bytes c.statement.number ++ (9 ∷ (mark_byte c.statement.mark ∷ fields_bytes c.objectors))),
      10,
      inr refl,
      simp append_assoc,
    )

-- every number that a card lists is a field of the catalogue, with a tab behind
pub card_names : (cs : List Card) (n : ℕ) → Each CardFormed cs → ListedIn cs n → Field (cards_bytes cs) n 9
unfolding cards_bytes
card_names [] n e (i, h, q) = absurd (not-suc-le-zero h)
card_names (c ∷ cs) n (f, e) (zero, h, q) =
    subst (λ m. Field (card_bytes c ++ cards_bytes cs) m 9) q (subst (λ u. Field u c.statement.number 9)
    (card_then c (cards_bytes cs)) (field_behind (83 ∷ 9 ∷ []) _ c.statement.number 9 (inr (83 ∷ [], 9, inl refl, refl))
    (number_first c.statement.number 9 _ f.0)))
card_names (c ∷ cs) n (f, e) (suc i, h, q) =
    field_behind (card_bytes c) (cards_bytes cs) n 9 (card_whole c) (card_names cs n e (i, le_of_suc-le-suc h, q))
