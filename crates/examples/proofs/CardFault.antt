-- Whether a text is accepted as a catalogue, or which fault it has, tested, as `Fault` does for the old form. The cards of a text
-- are guessed line by line, and the tests hold their bytes against the text and their numbers against the rules.
use mathlib.Core.Bool.{true}
use mathlib.Core.List.{List, [], ◌∷◌, ◌++◌}
use mathlib.Core.Path.{refl, ◌≡◌}
use Prim.Native.Nat.{ℕ, zero, suc, ◌+◌, ◌-◌, ◌≤◌, ◌<◌}
use lib.ListN.{length, get_or}
use Rattle.register.specs.Register.{Register, bare, written, targets_of}
use Rattle.register.specs.TextFaults.{text_fault_place}
use Rattle.register.specs.declared.TextFault.{TextFault}
use Rattle.register.specs.declared.TextFault.TheVariants.{TooLong, Unended, Spoiled, Late, Statements, Issued, Objections}
use Rattle.register.specs.declared.TextFault.TheVariants.{Unknown, Repeated}
use Rattle.catalogue.specs.Cards.{Card, cards_bytes, Each, BeginsWithCard}
use Rattle.catalogue.specs.Regrouped.{all_statements, all_objections, register_of, catalogued, Grouped}
use Rattle.catalogue.specs.CatalogueReads.{CatalogueOf, CatalogueAccepts, CatalogueRefuses, SoundCards, CardFault, NextCard}
use Rattle.catalogue.specs.CatalogueReads.{ListedIn}
use Rattle.catalogue.specs.CatalogueReads.{NamesListed, NamesOnce, FirstCard, OverAll}
use Rattle.catalogue.proofs.CardGuess.{guess_card, card_test, card_tested, spoiled_card_test, spoiled_card_tested}
use Rattle.examples.proofs.Text.{behind_line, rest_from, line_count}
use Rattle.examples.proofs.Test.{Test, Decision, both_of, either_of, so, both_decided, not_decided, each_decided, equally}
use Rattle.examples.proofs.Test.{never, decided, refuted, equals, at_most, below, alike, each}
use Rattle.examples.proofs.Fault.{not_ended, in_order, on_register}
use Rattle.examples.proofs.Named.{is_number}

-- the cards of the first n lines, by the guess of each; of all lines
unfoldable pub guess_cards : ℕ → List ℕ → List Card
guess_cards zero s = []
guess_cards (suc n) s = guess_card s ∷ guess_cards n (behind_line s)

unfoldable pub cards_of : List ℕ → List Card
cards_of s = guess_cards (line_count s) s

-- what is decided of one is decided of each
abbrev pub each_of : {A : Type 0} {P : A → Type 0} → ((a : A) → Decision (P a)) → (l : List A) → Decision (Each P l)
each_of p [] = record { passes = true; is = λ t. tt; must = λ h. tt }
each_of p (a ∷ l) = both_decided (p a) (each_of p l)

-- a card names listed numbers only; it names none twice
abbrev pub listed : (cs : List Card) (c : Card) → Decision (NamesListed cs c)
listed cs c = each_of (on_register (bare (all_statements cs))) c.objectors

module _ (c : Card) where
  abbrev pub Differ : ℕ → ℕ → Type 0
  Differ j i = get_or c.objectors i 0 ≡ get_or c.objectors j 0 → ⊥

  abbrev pub once : Decision (NamesOnce c)
  once =
      equally (λ (f : (j : ℕ) → j < length c.objectors → (i : ℕ) → i < j → Differ j i) i j h l. f j l i h)
      (λ (f : NamesOnce c) j l i h. f i j h l)
      (each_decided (length c.objectors) (λ j. each_decided j (λ i. not_decided
      (equals (get_or c.objectors i 0) (get_or c.objectors j 0)))))

-- what is asked line by line
abbrev pub sound : (cs : List Card) → Test (SoundCards cs)
sound cs =
    so (λ (v, (n, h)). record { listed = v; named = n; few_objections = h })
    (both_of (in_order (bare (all_statements cs))) (both_of (decided (each_of (λ (c : Card). each_of is_number c.objectors) cs))
    (decided (at_most (length (all_objections cs)) 4096))))

-- the objections of a register are grouped by target in listed order
abbrev pub in_groups : (R : Register) → Test (Grouped R)
in_groups R =
    so (λ (f : (k : ℕ) → k < length R.objections → (j : ℕ) → j < k → get_or (targets_of R) j 0 ≤ get_or (targets_of R) k 0) j k h
    l.
    f k l j h)
    (each (length R.objections) (λ k. each k (λ j. decided (at_most (get_or (targets_of R) j 0) (get_or (targets_of R) k 0)))))

-- Of a text: it is accepted as the register of the guessed cards.
module _ (s : List ℕ) where
  abbrev pub R : Register
  R = register_of (cards_of s)

  abbrev pub catalogue_of : Test (CatalogueOf s R)
  catalogue_of =
      so (λ (v, (g, e)). record { valid = v; is_grouped = g; is_catalogued = e })
      (both_of (in_order R) (both_of (in_groups R) (decided (alike s (catalogued R)))))

  abbrev pub catalogue_accepted : Test (CatalogueAccepts s R)
  catalogue_accepted =
      so (λ (c, h). record { catalogue = c; fits = h }) (both_of catalogue_of (decided (at_most (length (written R)) 65535)))

  -- the lines before the line k are the cards, and `rest` follows them
  module _ (before : List Card) (rest : List ℕ) (k : ℕ) where
    abbrev pub reached : (Fault : List Card → List ℕ → Type 0) → Test (Fault before rest) → Test (CardFault s k Fault)
    reached Fault test =
        so (λ ((l, e), ((v, w), (n, f))). record {
          fits = l;
          ended = e;
          before = before;
          rest = rest;
          sound = v;
          is_written = w;
          line = n;
          fault = f;
        })
        (both_of (both_of (decided (at_most (length s) 65535)) (refuted (not_ended s))) (both_of
        (both_of (sound before) (decided (alike s (cards_bytes before ++ rest))))
        (both_of (decided (equals k (suc (length before)))) test)))

    -- the next card is the guess
    abbrev pub next : Card
    next = guess_card rest

    abbrev pub at_card : (Fault : List Card → Card → Type 0) → Test (Fault before next)
        → Test (CardFault s k (λ cs rest. NextCard rest (Fault cs)))
    at_card Fault test =
        reached (λ cs rest. NextCard rest (Fault cs)) (so (λ (b, f). (next, b, f))
        (both_of (record { passes = card_test next rest; is = card_tested next rest }) test))

    -- over all cards: those before, the guess, and those behind it
    abbrev pub every : List Card
    every = before ++ (next ∷ cards_of (behind_line rest))

    abbrev pub over_all : (Fault : List Card → Type 0) → Test (Fault every) → Test (OverAll s Fault)
    over_all Fault test =
        so (λ ((l, v), (w, f)). (l, (every, v, w, f))) (both_of (both_of (decided (at_most (length s) 65535)) (sound every))
        (both_of (decided (alike s (cards_bytes every))) test))

    abbrev pub first_of : (P : Card → Type 0) → ((c : Card) → Decision (P c)) → Test (FirstCard P every k)
    first_of P p =
        so (λ (n, (g, f)). record {
          before = before;
          card = next;
          behind = cards_of (behind_line rest);
          are = refl;
          line = n;
          fine = g;
          fault = f;
        })
        (both_of (decided (equals k (suc (length before)))) (both_of (decided (each_of p before)) (refuted (p next))))

  -- the rows of the table
  abbrev pub fault_behind : (before : List Card) (rest : List ℕ) (f : TextFault) → Test (CatalogueRefuses s f)
  fault_behind before rest TooLong =
      either_of (decided (below 65535 (length s))) (so (λ (c, h). (R, c, h))
      (both_of catalogue_of (decided (below 65535 (length (written R))))))
  fault_behind before rest Unended = both_of (decided (at_most (length s) 65535)) (decided (not_ended s))
  fault_behind before rest (Spoiled k) =
      reached before rest k (λ cs rest. (0 < length rest) × ((c : Card) → ¬ BeginsWithCard c rest))
      (both_of (decided (below 0 (length rest))) (record { passes = spoiled_card_test rest; is = spoiled_card_tested rest }))
  fault_behind before rest (Late k) = never
  fault_behind before rest (Statements k) =
      at_card before rest k (λ cs c. 1024 ≤ length cs) (decided (at_most 1024 (length before)))
  fault_behind before rest (Issued k) =
      at_card before rest k (λ cs c. (length cs < 1024) × ListedIn cs c.statement.number)
      (both_of (decided (below (length before) 1024)) (decided (on_register (bare (all_statements before))
      (next before rest k).statement.number)))
  fault_behind before rest (Objections k) =
      at_card before rest k (λ cs c. (length cs < 1024) × (¬ ListedIn cs c.statement.number)
      × (4096 < length (all_objections cs) + length c.objectors))
      (so (λ (h, (n, m)). (h, n, m)) (both_of (decided (below (length before) 1024))
      (both_of (refuted (on_register (bare (all_statements before)) (next before rest k).statement.number))
      (decided (below 4096 (length (all_objections before) + length (next before rest k).objectors))))))
  fault_behind before rest (Unknown k) =
      over_all before rest k (λ cs. FirstCard (NamesListed cs) cs k)
      (first_of before rest k (NamesListed (every before rest k)) (listed (every before rest k)))
  fault_behind before rest (Repeated k) =
      over_all before rest k (λ cs. Each (NamesListed cs) cs × FirstCard NamesOnce cs k)
      (both_of (decided (each_of (listed (every before rest k)) (every before rest k))) (first_of before rest k NamesOnce once))

-- the fault, behind as many cards as its place says
abbrev pub catalogue_fault : (s : List ℕ) (f : TextFault) → Test (CatalogueRefuses s f)
catalogue_fault s f = fault_behind s (guess_cards (text_fault_place f - 1) s) (rest_from (text_fault_place f - 1) s) f
