-- A text begins with one card at most, cards one behind the other end with byte 10, and one card more is sound if it passes what
-- is asked line by line. What cards say of a register is left to `Regrouped`.
use mathlib.Core.List.{List, append_assoc, map-append, [], ◌∷◌, ◌++◌}
use mathlib.Core.Path.{refl, sym, ap, ◌≡◌, ◌∙◌}
use Prim.Native.Nat.{ℕ, ◌+◌, ◌≤◌, ◌<◌}
use native.Mathlib.Omega.{arith}
use lib.ListN.{length, length-append, length-map}
use Rattle.register.specs.Number.{IsNumber, number_bytes}
use Rattle.register.specs.Lines.{mark_byte}
use Rattle.register.specs.declared.StatementLine.{StatementLine}
use Rattle.register.specs.declared.ObjectionLine.{ObjectionLine}
use Rattle.register.specs.declared.Line.TheVariants.{Statement}
use Rattle.register.specs.Reads.{NotEnded}
use Rattle.register.proofs.Number.{split_once, number_injective, number_unbroken, number_once}
use Rattle.register.proofs.Lines.{line_once}
use Rattle.register.proofs.OneMore.{valid_statement}
use Rattle.register.proofs.Pieces.{pieces_ended}
use Rattle.catalogue.specs.Cards.{Card, card_bytes, cards_bytes, fields_bytes, Each, CardFormed}
use Rattle.catalogue.specs.Regrouped.{all_statements, all_objections, objections_on}
use Rattle.catalogue.specs.CatalogueReads.{SoundCards, ListedIn}
use Rattle.catalogue.proofs.Against.{each_append}
use Rattle.catalogue.proofs.Regrouped.{objections_append}

-- What follows a number on a card begins with a byte up to 10: a tab, or the end of the line.
pub fields_follow : (ys r : List ℕ) → (b : ℕ) × (t : List ℕ) × (b ≤ 10) × (fields_bytes ys ++ (10 ∷ r) ≡ b ∷ t)
unfolding fields_bytes
fields_follow [] r = (10, r, omega arith, refl)
fields_follow (y ∷ ys) r = (9, number_bytes y ++ fields_bytes ys ++ (10 ∷ r), omega arith, refl)

-- so a number on a card is read in one way
field_once : (y z : ℕ) (ys zs r t : List ℕ) → IsNumber y → IsNumber z
    → number_bytes y ++ (fields_bytes ys ++ (10 ∷ r)) ≡ number_bytes z ++ (fields_bytes zs ++ (10 ∷ t))
    → (y ≡ z) × (fields_bytes ys ++ (10 ∷ r) ≡ fields_bytes zs ++ (10 ∷ t))
field_once y z ys zs r t h k e =
    let (b, u, l, f) = fields_follow ys r in
    let (d, v, m, g) = fields_follow zs t in
    let (p, i, j) = split_once (number_bytes y) (number_bytes z) b d u v (number_unbroken y h) (number_unbroken z k) l m
    (ap (λ w. number_bytes y ++ w) (sym f) ∙ e ∙ ap (λ w. number_bytes z ++ w) g) in
    (number_injective y z h k p, cc)

pub fields_once : (ys zs r t : List ℕ) → Each IsNumber ys → Each IsNumber zs
    → fields_bytes ys ++ (10 ∷ r) ≡ fields_bytes zs ++ (10 ∷ t) → (ys ≡ zs) × (r ≡ t)
unfolding fields_bytes
fields_once [] [] r t a b e = (refl, cc)
fields_once [] (z ∷ zs) r t a b e = let f : ◌≡◌ {A = ℕ} 10 9 = cc in absurd (omega arith)
fields_once (y ∷ ys) [] r t a b e = let f : ◌≡◌ {A = ℕ} 9 10 = cc in absurd (omega arith)
fields_once (y ∷ ys) (z ∷ zs) r t (h, a) (k, b) e =
    let tail : number_bytes y ++ fields_bytes ys ++ (10 ∷ r) ≡ number_bytes z ++ fields_bytes zs ++ (10 ∷ t) = cc in
    let (f, g) = field_once y z ys zs r t h k (simp append_assoc at tail) in
    let (i, j) = fields_once ys zs r t a b g in
    (cc, j)

-- what a card ends with, behind its number
abbrev pub behind_number : Card → List ℕ → List ℕ
behind_number c r = mark_byte c.statement.mark ∷ (fields_bytes c.objectors ++ (10 ∷ r))

pub card_split : (c : Card) (r : List ℕ)
    → card_bytes c ++ r ≡ 83 ∷ 9 ∷ (number_bytes c.statement.number ++ (9 ∷ behind_number c r))
card_split c r = simp append_assoc

-- a text begins with one card at most
pub card_once : (c d : Card) (r t : List ℕ) → CardFormed c → CardFormed d → card_bytes c ++ r ≡ card_bytes d ++ t
    → (c ≡ d) × (r ≡ t)
card_once c d r t (h, a) (k, b) e =
    let whole : 83 ∷ 9 ∷ (number_bytes c.statement.number ++ (9 ∷ behind_number c r)) ≡ 83 ∷ 9 ∷
    (number_bytes d.statement.number ++ (9 ∷ behind_number d t)) = sym (card_split c r) ∙ e ∙ card_split d t in
    let (f, g) = number_once c.statement.number d.statement.number 9 9 (behind_number c r) (behind_number d t) h k
    (omega arith) (omega arith) (cc) in
    let mark : mark_byte c.statement.mark ≡ mark_byte d.statement.mark = cc in
    let line : Statement c.statement ≡ Statement d.statement = (line_once (Statement c.statement)
    (Statement d.statement) [] [] h k (λ i. 83 ∷ 9 ∷ (number_bytes (f i) ++ (9 ∷ mark i ∷ 10 ∷ []) ++ []))).0 in
    let same : c.statement ≡ d.statement = cc in
    let (i, j) = fields_once c.objectors d.objectors r t a b (cc) in
    (λ x. record { statement = same x; objectors = i x }, j)

pub card_not_empty : (c : Card) (r : List ℕ) → 0 < length (card_bytes c ++ r)
card_not_empty c r = omega arith

pub cards_bytes_append : (cs ds : List Card) → cards_bytes (cs ++ ds) ≡ cards_bytes cs ++ cards_bytes ds
unfolding cards_bytes
cards_bytes_append [] ds = refl
cards_bytes_append (c ∷ cs) ds =
    ap (λ u. card_bytes c ++ u) (cards_bytes_append cs ds) ∙ sym (append_assoc (card_bytes c) (cards_bytes cs) (cards_bytes ds))

-- every card is ended by byte 10, and so are cards
pub cards_ended : (cs : List Card) → NotEnded (cards_bytes cs) → ⊥
unfolding cards_bytes
cards_ended = pieces_ended cards_bytes card_bytes refl (λ c cs. refl) card_ended
  where
    card_ended : (c : Card) → (b : List ℕ) × (card_bytes c ≡ b ++ (10 ∷ []))
    card_ended c = (
      83 ∷ 9 ∷ (number_bytes c.statement.number ++ (9 ∷ mark_byte c.statement.mark ∷ fields_bytes c.objectors)),
      simp append_assoc,
    )

-- One card more, after which nothing is at fault that was not before.
pub objections_count : (cs : List Card) (c : Card) (more : List Card)
    → length (all_objections (cs ++ (c ∷ more))) ≡ length (all_objections cs) + length c.objectors + length (all_objections more)
unfolding all_objections
objections_count cs c more =
    omega (
      arith,
      ap length (objections_append cs (c ∷ more)),
      length-append (all_objections cs) (all_objections (c ∷ more)),
      length-append (objections_on c) (all_objections more),
      length-map c.objectors objection,
    )
  where
    objection : ℕ → ObjectionLine
    objection y = record { objector = y; target = c.statement.number }

pub sound_more : (cs : List Card) (c : Card) → SoundCards cs → CardFormed c → length cs < 1024
    → ¬ ListedIn cs c.statement.number
    → length (all_objections cs) + length c.objectors ≤ 4096 → SoundCards (cs ++ (c ∷ []))
unfolding all_objections
sound_more cs c sound (h, a) few new objections = record {
  listed = rw (map-append statement cs (c ∷ [])) (valid_statement (all_statements cs) c.statement sound.listed h
      (omega (arith, length-map cs statement)) new);
  named = each_append (λ (d : Card). Each IsNumber d.objectors) cs (c ∷ []) sound.named (a, tt);
  few_objections = omega (arith, objections_count cs c []);
}
  where
    statement : Card → StatementLine
    statement d = d.statement
