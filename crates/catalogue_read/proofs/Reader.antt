-- The loop over the lines: those passed are sound cards, which the rooms hold; the next line is kept, or is the one at fault.
-- When all are passed, what is asked over all lines says what the reader answers.
use mathlib.Core.List.{List, map, map-append, append_assoc, append-nil, [], ◌∷◌, ◌++◌}
use mathlib.Core.Logic.{inl, inr}
use mathlib.Core.Path.{refl, ap, sym, subst, ◌≡◌, ◌∙◌}
use Prim.Native.Nat.{ℕ, ◌+◌, ◌≤◌}
use native.Mathlib.Omega.{arith}
use lib.ListN.{length, take, drop, length-map, length-append, drop_of_length-le}
use lib.Seq.{take_all, length-take-le, take-append_seam}
use Rattle.register.specs.Lines.{mark_number}
use Rattle.register.specs.declared.StatementLine.{StatementLine}
use Rattle.register.specs.declared.TextFault.{TextFault}
use Rattle.register.specs.declared.TextFault.TheVariants.{TooLong, Unended, Spoiled, Late, Statements, Issued, Objections}
use Rattle.register.specs.declared.TextFault.TheVariants.{Unknown, Repeated}
use Rattle.register.specs.Register.{numbers, marks_of}
use Rattle.register.specs.Reads.{NotEnded}
use Rattle.register.proofs.OneMore.{empty_valid}
use Rattle.std.specs.Prelude.{Some, Ok, Err}
use Rattle.register_read.proofs.Held.{take_more}
use Rattle.catalogue.specs.Cards.{Card, card_bytes, cards_bytes, BeginsWithCard, Each}
use Rattle.catalogue.specs.Regrouped.{all_statements, all_objections, register_of}
use Rattle.catalogue.specs.CatalogueReads.{CardFault, CatalogueOf, CatalogueRefuses, ListedIn, NamesListed, NamesOnce}
use Rattle.catalogue.proofs.Cards.{cards_bytes_append, sound_more, objections_count}
use Rattle.catalogue.proofs.Regrouped.{catalogue_of_cards}
use Rattle.catalogue_read.specs.CatalogueState.{Filed, CardAt, CardTaken, SettledAs, OverallFault, places_from}
use Rattle.catalogue_read.specs.CatalogueState.{CatalogueReadsTo}
use Rattle.catalogue_read.proofs.AllCards.{codes_more, places_more, targets_are}
use Rattle.catalogue_read.proofs.Settled.{number_listed, number_unlisted}

pub few_objectors : {cs : List Card} {n m : ℕ} {nums objectors targets : List ℕ} → Filed cs n m nums objectors targets → m ≤ 4096
few_objectors f = omega (arith, f.objections, f.sound.few_objections)

-- The parts of the rooms that are in use hold the cards.
pub filed_part : {cs : List Card} {n m : ℕ} {nums objectors targets : List ℕ} → Filed cs n m nums objectors targets
    → 4096 ≤ length objectors → 4096 ≤ length targets
    → Filed cs n (length (take m objectors)) nums (take m objectors) (take m targets)
filed_part {cs} {n} {m} {nums} {objectors} {targets} f b c =
    let few : m ≤ 4096 = few_objectors f in
    let q : length (take m objectors) ≡ m = length-take-le m objectors (omega arith) in
    let r : length (take m targets) ≡ m = length-take-le m targets (omega arith) in
    subst (λ k. Filed cs n k nums (take m objectors) (take m targets)) (sym q) (record {
      sound = f.sound;
      statements = f.statements;
      objections = f.objections;
      numbers_are = f.numbers_are;
      codes_are = take_all m (take m objectors) (omega arith) ∙ f.codes_are;
      places_are = take_all m (take m targets) (omega arith) ∙ f.places_are;
    })

pub record Inv (s : List ℕ) (at n m : ℕ) (nums marks objectors targets : List ℕ) : Type 0 where
  pub cards : List Card
  pub filed : Filed cards n m nums objectors targets
  pub marks_are : take n marks ≡ marks_of (register_of cards)
  pub within : at ≤ length s
  pub is_read : s ≡ cards_bytes cards ++ drop at s

pub start : (s nums marks objectors targets : List ℕ) → Inv s 0 0 0 nums marks objectors targets
unfolding cards_bytes all_objections places_from
start s nums marks objectors targets = record {
  cards = [];
  filed =
      record {
        sound = record { listed = empty_valid; named = tt; few_objections = omega arith };
        statements = refl;
        objections = refl;
        numbers_are = refl;
        codes_are = refl;
        places_are = refl;
      };
  marks_are = refl;
  within = omega arith;
  is_read = refl;
}

-- what is kept of each statement, with one card more
statements_more : (f : StatementLine → ℕ) (cs : List Card) (c : Card)
    → map f (all_statements (cs ++ (c ∷ []))) ≡ map f (all_statements cs) ++ (f c.statement ∷ [])
statements_more f cs c =
    ap (map f) (map-append (λ (d : Card). d.statement) cs (c ∷ [])) ∙ map-append f (all_statements cs) (c.statement ∷ [])

module _ (s : List ℕ) (at n m : ℕ) (nums marks objectors targets : List ℕ) (v : Inv s at n m nums marks objectors targets) where
  statements_counted : length (all_statements v.cards) ≡ n
  statements_counted = length-map v.cards (λ (c : Card). c.statement) ∙ v.filed.statements

  module _ (fits : length s ≤ 65535) (ended : ¬ NotEnded s) where
    reached : (Fault : List Card → List ℕ → Type 0) → Fault v.cards (drop at s) → CardFault s (n + 1) Fault
    reached Fault f = record {
      fits = fits;
      ended = ended;
      before = v.cards;
      rest = drop at s;
      sound = v.filed.sound;
      is_written = v.is_read;
      line = omega (arith, v.filed.statements);
      fault = f;
    }

    pub fault : (st : StatementLine) (count next : ℕ) (objectors' targets' : List ℕ)
        → CardAt s at n m objectors targets objectors' targets' (Some (st, count, next)) → (r : TextFault)
        → CardTaken nums marks n count st nums marks (Err r) → CatalogueRefuses s r
    fault st count next objectors' targets' (c, same, formed, l, within, e, more) r = go
      where
        begun : BeginsWithCard c (drop at s)
        begun = (formed, (drop next s, e))

        go : CardTaken nums marks n count st nums marks (Err r) → CatalogueRefuses s r
        go (inl (h, q)) =
            subst (CatalogueRefuses s) (sym q) (reached _ (c, begun, omega (arith, v.filed.statements)))
        go (inr (inl (h, (i, at_i), q))) =
            subst (CatalogueRefuses s) (sym q) (reached _ (
              c,
              begun,
              (
                omega (arith, v.filed.statements),
                subst (λ (t : StatementLine). ListedIn v.cards t.number) (sym same)
                    (number_listed (all_statements v.cards) n nums statements_counted v.filed.numbers_are st.number i
                    at_i),
              ),
            ))
        go (inr (inr (h, absent, many, q))) =
            subst (CatalogueRefuses s) (sym q) (reached _ (
              c,
              begun,
              (
                omega (arith, v.filed.statements),
                subst (λ (t : StatementLine). ¬ ListedIn v.cards t.number) (sym same)
                    (number_unlisted (all_statements v.cards) n nums statements_counted v.filed.numbers_are st.number
                    absent),
                omega (arith, more.counted, v.filed.objections),
              ),
            ))

  -- the card is kept
  pub kept : (st : StatementLine) (count next : ℕ) (nums' marks' objectors' targets' : List ℕ) → 1024 ≤ length nums
      → 1024 ≤ length marks → 4096 ≤ length objectors → 4096 ≤ length targets
      → CardAt s at n m objectors targets objectors' targets' (Some (st, count, next))
      → CardTaken nums marks n count st nums' marks' (Ok tt) → Inv s next (n + 1) count nums' marks' objectors' targets'
  unfolding cards_bytes all_objections
  kept st count next nums' marks' objectors' targets' a b d g (c, same, formed, l, inside, e, more) (h, new, low, p, q) = record {
    cards = cs ++ (c ∷ []);
    filed =
        record {
          sound =
              sound_more cs c v.filed.sound formed (omega (arith, v.filed.statements)) unlisted
              (omega (arith, more.counted, v.filed.objections));
          statements = length-append cs (c ∷ []) ∙ omega (arith, v.filed.statements);
          objections = objections_count cs c [] ∙ omega (arith, more.counted, v.filed.objections);
          numbers_are =
              ap (take (n + 1)) p ∙ take_more nums n st.number (omega arith)
              ∙ ap (λ u. u ++ (st.number ∷ [])) v.filed.numbers_are
              ∙ ap (λ (t : StatementLine). numbers (register_of cs) ++ (t.number ∷ [])) (sym same)
              ∙ sym (statements_more (λ (t : StatementLine). t.number) cs c);
          codes_are =
              ap (λ k. take k objectors') more.counted ∙ more.objectors_grown.holds (omega (arith, more.counted))
              ∙ ap (λ u. u ++ c.objectors) v.filed.codes_are ∙ sym (codes_more cs c);
          places_are =
              ap (λ k. take k targets') (more.counted ∙ ap (λ k. m + k) (sym long))
              ∙ more.targets_grown.holds (omega (arith, more.counted, long))
              ∙ ap (λ u. u ++ map (λ (y : ℕ). n) c.objectors) v.filed.places_are
              ∙ ap (λ k. places_from 0 cs ++ map (λ (y : ℕ). k) c.objectors) (omega (arith, v.filed.statements))
              ∙ sym (places_more 0 cs c);
        };
    marks_are =
        ap (take (n + 1)) q ∙ take_more marks n (mark_number st.mark) (omega arith)
        ∙ ap (λ u. u ++ (mark_number st.mark ∷ [])) v.marks_are
        ∙ ap (λ (t : StatementLine). marks_of (register_of cs) ++ (mark_number t.mark ∷ [])) (sym same)
        ∙ sym (statements_more (λ (t : StatementLine). mark_number t.mark) cs c);
    within = inside;
    is_read =
        v.is_read ∙ ap (λ u. cards_bytes cs ++ u) e ∙ sym (append_assoc (cards_bytes cs) (card_bytes c) (drop next s))
        ∙ ap (λ u. cards_bytes cs ++ u ++ drop next s) (sym (append-nil (card_bytes c)))
        ∙ ap (λ u. u ++ drop next s) (sym (cards_bytes_append cs (c ∷ [])));
  }
    where
      cs : List Card
      cs = v.cards

      long : length (map (λ (y : ℕ). n) c.objectors) ≡ length c.objectors
      long = length-map c.objectors (λ (y : ℕ). n)

      unlisted : ¬ ListedIn cs c.statement.number
      unlisted =
          subst (λ (t : StatementLine). ¬ ListedIn cs t.number) (sym same)
          (number_unlisted (all_statements cs) n nums statements_counted v.filed.numbers_are st.number new)

  -- all lines are passed
  module _ (fits : length s ≤ 65535) (past : length s ≤ at) where
    all_read : s ≡ cards_bytes v.cards
    all_read =
        v.is_read ∙ ap (λ u. cards_bytes v.cards ++ u) (drop_of_length-le s past) ∙ append-nil (cards_bytes v.cards)

    catalogue : Each (NamesListed v.cards) v.cards → Each NamesOnce v.cards → CatalogueOf s (register_of v.cards)
    catalogue listed once =
        subst (λ u. CatalogueOf u (register_of v.cards)) (sym all_read)
        (catalogue_of_cards v.cards v.filed.sound listed once)

    pub refused : (r : TextFault) → OverallFault v.cards r → CatalogueRefuses s r
    refused TooLong (listed, once, l) = inr (register_of v.cards, catalogue listed once, l)
    refused (Unknown k) f = (fits, (v.cards, v.filed.sound, all_read, f))
    refused (Repeated k) f = (fits, (v.cards, v.filed.sound, all_read, f))
    refused Unended f = absurd f
    refused (Spoiled k) f = absurd f
    refused (Late k) f = absurd f
    refused (Statements k) f = absurd f
    refused (Issued k) f = absurd f
    refused (Objections k) f = absurd f

    pub overall : (objectors' rest : List ℕ) → SettledAs v.cards objectors' (Ok tt) → length objectors' ≡ m
        → CatalogueReadsTo s nums marks (objectors' ++ rest) targets (Ok (n, m))
    overall objectors' rest (listed, once, short, are) counted = (
      register_of v.cards,
      record { catalogue = catalogue listed once; fits = short },
      record {
        statements = statements_counted;
        objections = v.filed.objections;
        numbers_are = v.filed.numbers_are;
        marks_are = v.marks_are;
        objectors_are = ap (λ k. take k (objectors' ++ rest)) (sym counted) ∙ take-append_seam objectors' rest ∙ are;
        targets_are = v.filed.places_are ∙ sym (targets_are v.cards v.filed.sound.listed);
      },
    )
