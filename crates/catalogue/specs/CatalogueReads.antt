-- Which texts are catalogues, and which fault the others have, with its line. A text is accepted exactly if it is the catalogue
-- of a register within all limits whose old form is not too long. "Refusals for the new form: 1, 2, then 3, 6, 5, 9 by line,
-- then over all lines 7, then 8, each with the earliest line; 1 with place 0 if the old form would be too long".
use Rattle.std.specs.Prelude.{List, ◌∷◌, ◌++◌, ◌⊎◌, ◌≡◌, ℕ, suc, ◌+◌, ◌≤◌, ◌<◌, length, get_or}
use Rattle.register.specs.Number.{IsNumber}
use Rattle.register.specs.declared.TextFault.{TextFault}
use Rattle.register.specs.declared.TextFault.TheVariants.{TooLong, Unended, Spoiled, Late, Statements, Issued, Objections}
use Rattle.register.specs.declared.TextFault.TheVariants.{Unknown, Repeated}
use Rattle.register.specs.Register.{Register, Valid, bare, written, Issued as OnRegister}
use Rattle.register.specs.Reads.{NotEnded}
use Rattle.catalogue.specs.Cards.{Card, cards_bytes, Each, BeginsWithCard}
use Rattle.catalogue.specs.Regrouped.{catalogued, Grouped, all_statements, all_objections}

-- s is the catalogue of R, whose objections stand as going back groups them
pub record CatalogueOf (s : List ℕ) (R : Register) : Type 0 where
  pub valid : Valid R
  pub is_grouped : Grouped R
  pub is_catalogued : s ≡ catalogued R

-- and its old form is not too long, so that the catalogue isn't either
pub record CatalogueAccepts (s : List ℕ) (R : Register) : Type 0 where
  pub catalogue : CatalogueOf s R
  pub fits : length (written R) ≤ 65535

-- What is asked line by line: numbers that are numbers, within the limits, no statement issued twice.
pub record SoundCards (cs : List Card) : Type 0 where
  pub listed : Valid (bare (all_statements cs))
  pub named : Each (λ (c : Card). Each IsNumber c.objectors) cs
  pub few_objections : length (all_objections cs) ≤ 4096

-- The lines before line k are sound, and what follows them, `rest`, is at fault. Lines are counted from 1.
pub record CardFault (s : List ℕ) (k : ℕ) (Fault : List Card → List ℕ → Type 0) : Type 0 where
  pub fits : length s ≤ 65535
  pub ended : ¬ NotEnded s
  pub before : List Card
  pub rest : List ℕ
  pub sound : SoundCards before
  pub is_written : s ≡ cards_bytes before ++ rest
  pub line : k ≡ suc (length before)
  pub fault : Fault before rest

-- the next line is this card
abbrev pub NextCard : List ℕ → (Card → Type 0) → Type 0
NextCard rest Fault = (c : Card) × BeginsWithCard c rest × Fault c

-- a number is that of a card; a card names listed numbers only; it names none twice
abbrev pub ListedIn : List Card → ℕ → Type 0
ListedIn cs n = OnRegister (bare (all_statements cs)) n

abbrev pub NamesListed : List Card → Card → Type 0
NamesListed cs c = Each (ListedIn cs) c.objectors

abbrev pub NamesOnce : Card → Type 0
NamesOnce c = (i j : ℕ) → i < j → j < length c.objectors → get_or c.objectors i 0 ≡ get_or c.objectors j 0 → ⊥

-- the earliest line, k, whose card is not as it should be
pub record FirstCard (P : Card → Type 0) (cs : List Card) (k : ℕ) : Type 0 where
  pub before : List Card
  pub card : Card
  pub behind : List Card
  pub are : cs ≡ before ++ (card ∷ behind)
  pub line : k ≡ suc (length before)
  pub fine : Each P before
  pub fault : ¬ P card

-- no line has one of the earlier faults, and of all cards so much holds
abbrev pub OverAll : List ℕ → (List Card → Type 0) → Type 0
OverAll s Fault = (length s ≤ 65535) × ((cs : List Card) × SoundCards cs × (s ≡ cards_bytes cs) × Fault cs)

-- The rows of the table. A catalogue has no line that could be late.
abbrev pub CatalogueRefuses : List ℕ → TextFault → Type 0
CatalogueRefuses s TooLong = (65535 < length s) ⊎ ((R : Register) × CatalogueOf s R × (65535 < length (written R)))
CatalogueRefuses s Unended = (length s ≤ 65535) × NotEnded s
CatalogueRefuses s (Spoiled k) = CardFault s k (λ cs rest. (0 < length rest) × ((c : Card) → ¬ BeginsWithCard c rest))
CatalogueRefuses s (Statements k) = CardFault s k (λ cs rest. NextCard rest (λ c. 1024 ≤ length cs))
CatalogueRefuses s (Issued k) =
    CardFault s k (λ cs rest. NextCard rest (λ c. (length cs < 1024) × ListedIn cs c.statement.number))
CatalogueRefuses s (Objections k) =
    CardFault s k (λ cs rest. NextCard rest
    (λ c. (length cs < 1024) × (¬ ListedIn cs c.statement.number)
    × (4096 < length (all_objections cs) + length c.objectors)))
CatalogueRefuses s (Unknown k) = OverAll s (λ cs. FirstCard (NamesListed cs) cs k)
CatalogueRefuses s (Repeated k) = OverAll s (λ cs. Each (NamesListed cs) cs × FirstCard NamesOnce cs k)
CatalogueRefuses s (Late k) = ⊥
