-- What the passes over the rooms say of the cards that stand there: whether each names listed numbers only, and none twice, and
-- the register that they make then. The entries are those of the cards, one behind the other (`AllCards`).
use mathlib.Core.List.{List, []}
use mathlib.Core.Path.{refl, ap, sym, subst, ◌≡◌, ◌∙◌}
use Prim.Native.Nat.{ℕ, ◌+◌, ◌≤◌, ◌<◌}
use native.Mathlib.Omega.{arith}
use lib.ListN.{length, get_or, take, length-map}
use lib.Seq.{take_all, get_or-take, ext_get_or}
use Rattle.register.specs.Lines.{mark_number}
use Rattle.register.specs.declared.StatementLine.{StatementLine}
use Rattle.register.specs.declared.ObjectionLine.{ObjectionLine}
use Rattle.register.specs.Register.{bare, numbers, marks_of, objectors_of, place_of, Issued}
use Rattle.register.proofs.Order.{mapped}
use Rattle.register_read.specs.ReadState.{Holds, Made, Absent, At}
use Rattle.register_read.proofs.Held.{on_register_lem, off_register, place_is}
use Rattle.catalogue.specs.Cards.{Card, Each}
use Rattle.catalogue.specs.Regrouped.{all_statements, all_objections, register_of}
use Rattle.catalogue.specs.CatalogueReads.{ListedIn, NamesListed, NamesOnce, FirstCard}
use Rattle.catalogue.proofs.Regrouped.{cards_valid, cards_grouped}
use Rattle.catalogue_read.specs.CatalogueState.{Filed, FirstLine, PlacedAt, Twice, InLine, places_from}
use Rattle.catalogue_read.proofs.AllCards.{codes, targets_are, each_fine, first_card, ListedAt, listed_tells, TwiceAt}
use Rattle.catalogue_read.proofs.AllCards.{once_tells, places_low}

-- cards of which nothing is at fault, and the register that they make, by the places of its objectors
pub record Passed (cs : List Card) (nums targets objectors' : List ℕ) : Type 0 where
  pub listed : Each (NamesListed cs) cs
  pub once : Each NamesOnce cs
  pub made : Made (register_of cs) nums (marks_of (register_of cs)) objectors' targets

-- The register of statements alone stands in the room of the numbers: which numbers are on it, and at which place.
module _ (S : List StatementLine) (n : ℕ) (nums : List ℕ) (counted : length S ≡ n) (are : take n nums ≡ numbers (bare S)) where
  held : Holds (bare S) n 0 nums (marks_of (bare S)) [] []
  held = record {
    statements = counted;
    objections = refl;
    numbers_are = are;
    marks_are =
        take_all n (marks_of (bare S)) (omega (arith, length-map S (λ (st : StatementLine). mark_number st.mark)));
    objectors_are = refl;
    targets_are = refl;
  }

  pub number_listed : (v i : ℕ) → At nums n v i → Issued (bare S) v
  number_listed = on_register_lem (bare S) n 0 nums (marks_of (bare S)) [] [] held

  pub number_unlisted : (v : ℕ) → Absent nums n v → ¬ Issued (bare S) v
  number_unlisted = off_register (bare S) n 0 nums (marks_of (bare S)) [] [] held

  number_placed : (v y : ℕ) → At nums n v y → Absent nums y v → place_of (numbers (bare S)) v ≡ y
  number_placed = place_is (bare S) n 0 nums (marks_of (bare S)) [] [] held

module _ (cs : List Card) (n m : ℕ) (nums objectors targets : List ℕ) (filed : Filed cs n m nums objectors targets) where
  counted : length (codes cs) ≡ m
  counted = length-map (all_objections cs) (λ (o : ObjectionLine). o.objector) ∙ filed.objections

  code_at : (j : ℕ) → j < m → get_or objectors j 0 ≡ get_or (codes cs) j 0
  code_at j h = sym (get_or-take m objectors j 0 h) ∙ ap (λ u. get_or u j 0) filed.codes_are

  place_at : (j : ℕ) → j < m → get_or targets j 0 ≡ get_or (places_from 0 cs) j 0
  place_at j h = sym (get_or-take m targets j 0 h) ∙ ap (λ u. get_or u j 0) filed.places_are

  statements_counted : length (all_statements cs) ≡ n
  statements_counted = length-map cs (λ (c : Card). c.statement) ∙ filed.statements

  pub in_line : m ≤ length targets → InLine targets m
  in_line room = record {
    room = room;
    low =
        λ k h. omega (
          arith,
          place_at k h,
          places_low cs 0 k (omega (arith, counted)),
          filed.sound.listed.few_statements,
          statements_counted,
          filed.statements,
        );
    rising =
        λ j k l h. omega (
          arith,
          place_at j (omega arith),
          place_at k h,
          ap (λ u. get_or u j 0) (targets_are cs filed.sound.listed),
          ap (λ u. get_or u k 0) (targets_are cs filed.sound.listed),
          cards_grouped cs filed.sound.listed j k l (omega (arith, filed.objections)),
        );
  }

  module _ (objectors' : List ℕ) where
    listed_at : (j : ℕ) → j < m → PlacedAt nums n objectors objectors' j → ListedAt cs j
    listed_at j h (l, _, f) =
        subst (ListedIn cs) (code_at j h) (number_listed (all_statements cs) n nums statements_counted filed.numbers_are
        (get_or objectors j 0) (get_or objectors' j 0) (l, f))

    unlisted_at : (j : ℕ) → j < m → Absent nums n (get_or objectors j 0) → ¬ ListedAt cs j
    unlisted_at j h f w =
        number_unlisted (all_statements cs) n nums statements_counted filed.numbers_are (get_or objectors j 0) f
        (subst (ListedIn cs) (sym (code_at j h)) w)

    pub unknown_card : (line : ℕ)
        → FirstLine (PlacedAt nums n objectors objectors') (λ j. Absent nums n (get_or objectors j 0)) targets m line
        → FirstCard (NamesListed cs) cs line
    unknown_card line (k, h, f, b, l) =
        first_card (NamesListed cs) (ListedAt cs) (λ j. ¬ ListedAt cs j) cs (listed_tells cs) k line (omega (arith, counted))
        (λ j i. listed_at j (omega arith) (f j i)) (unlisted_at k h b) (l ∙ ap (λ a. a + 1) (place_at k h))

    module _ (placed : (j : ℕ) → j < m → PlacedAt nums n objectors objectors' j) where
      pub all_listed : Each (NamesListed cs) cs
      all_listed =
          each_fine (NamesListed cs) (ListedAt cs) (λ j. ¬ ListedAt cs j) cs (listed_tells cs)
          (λ j h. let i : j < m = omega (arith, counted) in listed_at j i (placed j i))

      objector_at : (j : ℕ) → j < m → get_or objectors' j 0 ≡ place_of (numbers (register_of cs)) (get_or (codes cs) j 0)
      objector_at j h =
          let (l, first, f) = placed j h in
          sym (number_placed (all_statements cs) n nums statements_counted filed.numbers_are (get_or objectors j 0)
          (get_or objectors' j 0) (l, f) first)
          ∙ ap (place_of (numbers (register_of cs))) (code_at j h)

      -- the same objector by place and by number
      same_code : (i j : ℕ) → i < m → j < m → get_or objectors' i 0 ≡ get_or objectors' j 0
          → get_or (codes cs) i 0 ≡ get_or (codes cs) j 0
      same_code i j h k e =
          sym (code_at i h) ∙ sym (placed i h).2 ∙ ap (λ a. get_or nums a 0) e ∙ (placed j k).2 ∙ code_at j k

      same_place : (i j : ℕ) → i < m → j < m → get_or (codes cs) i 0 ≡ get_or (codes cs) j 0
          → get_or objectors' i 0 ≡ get_or objectors' j 0
      same_place i j h k e = objector_at i h ∙ ap (place_of (numbers (register_of cs))) e ∙ sym (objector_at j k)

      twice_at : (j : ℕ) → j < m → Twice objectors' targets j → TwiceAt cs j
      twice_at j h (i, l, e, t) =
          let k : i < m = omega arith in
          (i, l, same_code i j k h e, sym (place_at i k) ∙ t ∙ place_at j h)

      twice_back : (j : ℕ) → j < m → TwiceAt cs j → Twice objectors' targets j
      twice_back j h (i, l, e, t) =
          let k : i < m = omega arith in
          (i, l, same_place i j k h e, place_at i k ∙ t ∙ sym (place_at j h))

      pub repeated_card : (line : ℕ)
          → FirstLine (λ j. ¬ Twice objectors' targets j) (Twice objectors' targets) targets m line → FirstCard NamesOnce cs line
      repeated_card line (k, h, f, b, l) =
          first_card NamesOnce (λ j. ¬ TwiceAt cs j) (TwiceAt cs) cs (once_tells cs) k line (omega (arith, counted))
          (λ j i w. f j i (twice_back j (omega arith) w)) (twice_at k h b) (l ∙ ap (λ a. a + 1) (place_at k h))

      module _ (apart : (j : ℕ) → j < m → ¬ Twice objectors' targets j)
          (all_objectors : length objectors' ≡ m) (all_targets : length targets ≡ m)
        where
          all_once : Each NamesOnce cs
          all_once =
              each_fine NamesOnce (λ j. ¬ TwiceAt cs j) (TwiceAt cs) cs (once_tells cs)
              (λ j h w. let i : j < m = omega (arith, counted) in apart j i (twice_back j i w))

          objectors_are : objectors' ≡ objectors_of (register_of cs)
          objectors_are =
              ext_get_or 0 objectors' (objectors_of (register_of cs)) (all_objectors ∙ sym (placed_counted ∙ counted))
              (λ j h. objector_at j (omega (arith, all_objectors))
              ∙ sym (mapped (place_of (numbers (register_of cs))) (codes cs) j (omega (arith, all_objectors, counted))))
            where
              placed_counted : length (objectors_of (register_of cs)) ≡ length (codes cs)
              placed_counted = length-map (codes cs) (place_of (numbers (register_of cs)))

          pub passed : Passed cs (take n nums) targets objectors'
          passed = record {
            listed = all_listed;
            once = all_once;
            made =
                record {
                  valid = cards_valid cs filed.sound all_listed all_once;
                  numbers_are = filed.numbers_are;
                  marks_are = refl;
                  objectors_are = objectors_are;
                  targets_are =
                      sym (take_all m targets (omega (arith, all_targets))) ∙ filed.places_are
                      ∙ sym (targets_are cs filed.sound.listed);
                };
          }
