-- What reading a catalogue leaves in the lent rooms, and what reading or taking one line does to them. Which texts are
-- catalogues, and of which registers, `catalogue` says; what rooms that hold a register are, `register_read`.
use Rattle.std.specs.Prelude.{Option, Some, None, Result, Ok, Err, List, map, [], ◌∷◌, ◌++◌, ◌⊎◌, ◌≡◌, ℕ, suc, ◌+◌, ◌≤◌, ◌<◌}
use Rattle.std.specs.Prelude.{length, take, drop, get_or, set}
use Rattle.game.specs.Questions.{FirstBelow}
use Rattle.register.specs.Number.{IsNumber, number_bytes}
use Rattle.register.specs.Lines.{mark_byte, mark_number}
use Rattle.register.specs.declared.StatementLine.{StatementLine}
use Rattle.register.specs.declared.TextFault.{TextFault}
use Rattle.register.specs.declared.TextFault.TheVariants.{TooLong, Unended, Spoiled, Late, Statements, Issued, Objections}
use Rattle.register.specs.declared.TextFault.TheVariants.{Unknown, Repeated}
use Rattle.register.specs.Register.{Register, numbers, objector_numbers, objectors_of, written}
use Rattle.catalogue.specs.Cards.{Card, CardFormed, BeginsWithCard, Each, card_bytes, fields_bytes}
use Rattle.catalogue.specs.Regrouped.{all_objections, register_of}
use Rattle.catalogue.specs.CatalogueReads.{CatalogueAccepts, CatalogueRefuses, SoundCards, NamesListed, NamesOnce, FirstCard}
use Rattle.register_read.specs.ReadState.{Holds, Absent, At}

-- what the reader answers, with the rooms as it leaves them
abbrev pub CatalogueReadsTo : List ℕ → (nums marks objectors targets : List ℕ) → Result (ℕ × ℕ) TextFault → Type 0
CatalogueReadsTo s nums marks objectors targets (Ok (n, m)) =
    (R : Register) × CatalogueAccepts s R × Holds R n m nums marks objectors targets
CatalogueReadsTo s nums marks objectors targets (Err r) = CatalogueRefuses s r

-- The rest is not for callers. What stands before a card's fields, and what follows.
abbrev pub headed : StatementLine → List ℕ → List ℕ
headed st rest = 83 ∷ 9 ∷ (number_bytes st.number ++ (9 ∷ mark_byte st.mark ∷ rest))

-- what reading it answers: the statement and the place behind its mark, or that none stands there
abbrev pub HeadAt : List ℕ → ℕ → Option (StatementLine × ℕ) → Type 0
HeadAt s at (Some (st, end)) = IsNumber st.number × (at < end) × (end ≤ length s) × (drop at s ≡ headed st (drop end s))
HeadAt s at None = (st : StatementLine) (rest : List ℕ) → IsNumber st.number → drop at s ≡ headed st rest → ⊥

-- the rest of a line: numbers, each behind a tab, and the end
pub record FieldsFrom (s : List ℕ) (at : ℕ) : Type 0 where
  pub fields : List ℕ
  pub rest : List ℕ
  pub formed : Each IsNumber fields
  pub are : drop at s ≡ fields_bytes fields ++ (10 ∷ rest)

-- A room of which m entries were in use, with some more, as far as there is room for them.
pub record RoomGrown (room : List ℕ) (m : ℕ) (more room' : List ℕ) : Type 0 where
  pub as_long : length room' ≡ length room
  pub holds : m + length more ≤ length room → take (m + length more) room' ≡ take m room ++ more

-- the rooms of the objectors and of the places of their targets, with those of one more line, the place of whose statement is n
pub record MoreOf (n m count : ℕ) (ys objectors targets objectors' targets' : List ℕ) : Type 0 where
  pub counted : count ≡ m + length ys
  pub objectors_grown : RoomGrown objectors m ys objectors'
  pub targets_grown : RoomGrown targets m (map (λ (y : ℕ). n) ys) targets'

-- what reading the fields answers: how many objectors there are now, and where the next line starts
abbrev pub FieldsAt : List ℕ → (at n m : ℕ) → (objectors targets objectors' targets' : List ℕ) → Option (ℕ × ℕ) → Type 0
FieldsAt s at n m objectors targets objectors' targets' (Some (count, next)) =
    (ys : List ℕ) × Each IsNumber ys × (at < next) × (next ≤ length s) × (drop at s ≡ fields_bytes ys ++ (10 ∷ drop next s))
    × MoreOf n m count ys objectors targets objectors' targets'
FieldsAt s at n m objectors targets objectors' targets' None = ¬ FieldsFrom s at

-- and the whole line
abbrev pub CardAt : List ℕ → (at n m : ℕ) → (objectors targets objectors' targets' : List ℕ)
    → Option (StatementLine × ℕ × ℕ) → Type 0
CardAt s at n m objectors targets objectors' targets' (Some (st, count, next)) =
    (c : Card) × (c.statement ≡ st) × CardFormed c × (at < next) × (next ≤ length s) × (drop at s ≡ card_bytes c ++ drop next s)
    × MoreOf n m count c.objectors objectors targets objectors' targets'
CardAt s at n m objectors targets objectors' targets' None = (c : Card) → ¬ BeginsWithCard c (drop at s)

-- what becomes of the statement of a card after n others, if there are so many objectors with the card's
abbrev pub CardTaken : (nums marks : List ℕ) (n count : ℕ) → StatementLine → (nums' marks' : List ℕ) → Result Unit TextFault
    → Type 0
CardTaken nums marks n count st nums' marks' (Ok _) =
    (n < 1024) × Absent nums n st.number × (count ≤ 4096) × (nums' ≡ set nums n st.number)
    × (marks' ≡ set marks n (mark_number st.mark))
CardTaken nums marks n count st nums' marks' (Err r) =
    ((1024 ≤ n) × (r ≡ Statements (n + 1)))
    ⊎ (((n < 1024) × ((i : ℕ) × At nums n st.number i) × (r ≡ Issued (n + 1)))
    ⊎ ((n < 1024) × Absent nums n st.number × (4096 < count) × (r ≡ Objections (n + 1))))

-- the place of the statement of each objector's card, where the first card's is i
unfoldable pub places_from : ℕ → List Card → List ℕ
places_from i [] = []
places_from i (c ∷ cs) = map (λ (y : ℕ). i) c.objectors ++ places_from (suc i) cs

-- The rooms hold sound cards: the numbers in listed order, the objectors still by number, and the places of their targets.
pub record Filed (cs : List Card) (n m : ℕ) (nums objectors targets : List ℕ) : Type 0 where
  pub sound : SoundCards cs
  pub statements : length cs ≡ n
  pub objections : length (all_objections cs) ≡ m
  pub numbers_are : take n nums ≡ numbers (register_of cs)
  pub codes_are : take m objectors ≡ objector_numbers (register_of cs)
  pub places_are : take m targets ≡ places_from 0 cs

-- the line of the earliest of the first m entries that is not as it should be
abbrev pub FirstLine : (Fine Fault : ℕ → Type 0) (targets : List ℕ) (m line : ℕ) → Type 0
FirstLine Fine Fault targets m line =
    (k : ℕ) × (k < m) × ((j : ℕ) → j < k → Fine j) × Fault k × (line ≡ get_or targets k 0 + 1)

-- the entry j was a number, and is the first place where that stands
abbrev pub PlacedAt : (nums : List ℕ) (n : ℕ) (objectors objectors' : List ℕ) → ℕ → Type 0
PlacedAt nums n objectors objectors' j =
    FirstBelow (λ x. get_or nums x 0 ≡ get_or objectors j 0) n (Some (get_or objectors' j 0))

-- an entry before k names the same objector and target
abbrev pub Twice : (objectors targets : List ℕ) → ℕ → Type 0
Twice objectors targets k =
    (j : ℕ) × (j < k) × (get_or objectors j 0 ≡ get_or objectors k 0) × (get_or targets j 0 ≡ get_or targets k 0)

-- the places of the targets are among the first 1,024, in order
pub record InLine (targets : List ℕ) (m : ℕ) : Type 0 where
  pub room : m ≤ length targets
  pub low : (k : ℕ) → k < m → get_or targets k 0 < 1024
  pub rising : (j k : ℕ) → j < k → k < m → get_or targets j 0 ≤ get_or targets k 0

-- What is asked over all lines, of cards that stand in the rooms; if nothing is at fault, the objectors stand there by place.
abbrev pub OverallFault : List Card → TextFault → Type 0
OverallFault cs (Unknown k) = FirstCard (NamesListed cs) cs k
OverallFault cs (Repeated k) = Each (NamesListed cs) cs × FirstCard NamesOnce cs k
OverallFault cs TooLong = Each (NamesListed cs) cs × Each NamesOnce cs × (65535 < length (written (register_of cs)))
OverallFault cs Unended = ⊥
OverallFault cs (Spoiled k) = ⊥
OverallFault cs (Late k) = ⊥
OverallFault cs (Statements k) = ⊥
OverallFault cs (Issued k) = ⊥
OverallFault cs (Objections k) = ⊥

abbrev pub SettledAs : List Card → (objectors' : List ℕ) → Result Unit TextFault → Type 0
SettledAs cs objectors' (Ok _) =
    Each (NamesListed cs) cs × Each NamesOnce cs × (length (written (register_of cs)) ≤ 65535)
    × (objectors' ≡ objectors_of (register_of cs))
SettledAs cs objectors' (Err r) = OverallFault cs r
