-- From a register to its cards and back: cards that are in order come back as they were, a register comes back with its
-- objections grouped, and either way nothing is lost. What the bytes of cards are is left to others. Objections are put to their
-- groups one after the other, so that what is counted and what is grouped comes from one law, `put`.
use mathlib.Core.Bool.{Bool, true, false}
use mathlib.Core.List.{List, map, append_assoc, append-nil, map-map, [], ◌∷◌, ◌++◌}
use mathlib.Core.Logic.{⊎_elim, ◌↔◌}
use mathlib.Core.Path.{refl, ap, sym, ◌≡◌, ◌∙◌, subst}
use Prim.Native.Nat.{ℕ, suc, zero, ◌+◌, ◌≤◌, ◌<◌}
use native.Mathlib.Nat.{not-suc-le-zero, le_of_suc-le-suc}
use native.Mathlib.Decide.{ℕ_discrete}
use native.Mathlib.Omega.{arith}
use lib.Dec.{eqb}
use lib.ListN.{length, get_or, length-append}
use borrow.Author.Tests.{eq-eqb, ne_eqb}
use Rattle.register.specs.Number.{IsNumber}
use Rattle.register.specs.declared.StatementLine.{StatementLine}
use Rattle.register.specs.declared.ObjectionLine.{ObjectionLine}
use Rattle.register.specs.Register.{Register, Valid, bare, numbers, Has, place_of, pick_place}
use Rattle.register.proofs.OneMore.{statements_alone}
use Rattle.register.proofs.Order.{place_first}
use Rattle.catalogue.specs.Cards.{Card, cards_bytes, Each}
use Rattle.catalogue.specs.Regrouped.{against, card_of, cards, objections_on, all_objections, all_statements, register_of}
use Rattle.catalogue.specs.Regrouped.{grouped, Grouped}
use Rattle.catalogue.specs.CatalogueReads.{SoundCards, NamesListed, NamesOnce, CatalogueOf}
use Rattle.catalogue.proofs.Against.{Among, among_later, among_cases, among_or_not, Once, once_first, once_later}
use Rattle.catalogue.proofs.Against.{each_weaker, each_append, each_at, each_of, against_on, against_other, against_append}
use Rattle.catalogue.proofs.Against.{against_none, each_against, has_among, among_has, distinct_once, once_distinct}

-- the number of a card; the numbers of cards; objections on a number
abbrev number_on : Card → ℕ
number_on c = c.statement.number

abbrev numbers_on : List Card → List ℕ
numbers_on cs = numbers (bare (all_statements cs))

abbrev on_number : ℕ → List ℕ → List ObjectionLine
on_number n ys = map (λ (y : ℕ). record { objector = y; target = n }) ys

pub objections_append : (cs ds : List Card) → all_objections (cs ++ ds) ≡ all_objections cs ++ all_objections ds
unfolding all_objections
objections_append [] ds = refl
objections_append (c ∷ cs) ds =
    ap (λ u. objections_on c ++ u) (objections_append cs ds)
    ∙ sym (append_assoc (objections_on c) (all_objections cs) (all_objections ds))

-- What holds of the numbers of cards holds of each target, and what holds of those that they name holds of each objector.
module _ (P : ℕ → Type 0) where
  each_target_on : (n : ℕ) → P n → (ys : List ℕ) → Each (λ (o : ObjectionLine). P o.target) (on_number n ys)
  each_target_on n p [] = tt
  each_target_on n p (y ∷ ys) = (p, each_target_on n p ys)

  each_target : (cs : List Card) → ((x : ℕ) → Among (numbers_on cs) x → P x)
      → Each (λ (o : ObjectionLine). P o.target) (all_objections cs)
  unfolding all_objections
  each_target [] f = tt
  each_target (c ∷ cs) f =
      each_append (λ (o : ObjectionLine). P o.target) (objections_on c) (all_objections cs)
      (each_target_on (number_on c) (f (number_on c) (0, omega arith, refl)) c.objectors)
      (each_target cs (λ x w. f x (among_later (number_on c) (numbers_on cs) x w)))

  each_objector_on : (n : ℕ) (ys : List ℕ) → Each P ys → Each (λ (o : ObjectionLine). P o.objector) (on_number n ys)
  each_objector_on n [] p = tt
  each_objector_on n (y ∷ ys) p = (p.0, each_objector_on n ys p.1)

  each_objector : (cs : List Card) → Each (λ (c : Card). Each P c.objectors) cs
      → Each (λ (o : ObjectionLine). P o.objector) (all_objections cs)
  unfolding all_objections
  each_objector [] p = tt
  each_objector (c ∷ cs) p =
      each_append (λ (o : ObjectionLine). P o.objector) (objections_on c) (all_objections cs)
      (each_objector_on (number_on c) c.objectors p.0) (each_objector cs p.1)

-- The objectors of x: on a card of x all that it names, on another none, and on no card if x is not listed.
on_card : (n : ℕ) (ys : List ℕ) → against (on_number n ys) n ≡ ys
unfolding against
on_card n [] = refl
on_card n (y ∷ ys) = against_on (record { objector = y; target = n }) (on_number n ys) n refl ∙ ap (λ u. y ∷ u) (on_card n ys)

off_card : (n : ℕ) (ys : List ℕ) (x : ℕ) → (n ≡ x → ⊥) → against (on_number n ys) x ≡ []
off_card n ys x f = against_none (λ v. n ≡ v) (on_number n ys) x (each_target_on (λ v. n ≡ v) n refl ys) f

unlisted : (cs : List Card) (x : ℕ) → ¬ Among (numbers_on cs) x → against (all_objections cs) x ≡ []
unlisted cs x f =
    against_none (Among (numbers_on cs)) (all_objections cs) x (each_target (Among (numbers_on cs)) cs (λ y w. w)) f

module _ (c : Card) (cs : List Card) where
  first_card : ¬ Among (numbers_on cs) (number_on c) → against (all_objections (c ∷ cs)) (number_on c) ≡ c.objectors
  unfolding all_objections
  first_card f =
      against_append (objections_on c) (all_objections cs) (number_on c)
      ∙ ap (λ u. u ++ against (all_objections cs) (number_on c)) (on_card (number_on c) c.objectors)
      ∙ ap (λ u. c.objectors ++ u) (unlisted cs (number_on c) f) ∙ append-nil c.objectors

  later_card : (x : ℕ) → (number_on c ≡ x → ⊥) → against (all_objections (c ∷ cs)) x ≡ against (all_objections cs) x
  unfolding all_objections
  later_card x f =
      against_append (objections_on c) (all_objections cs) x
      ∙ ap (λ u. u ++ against (all_objections cs) x) (off_card (number_on c) c.objectors x f)

-- So cards come back, behind objections on none of them.
back_behind : (cs : List Card) (P : List ObjectionLine) → Once (numbers_on cs)
    → ((x : ℕ) → Among (numbers_on cs) x → against P x ≡ [])
    → cards (record { statements = all_statements cs; objections = P ++ all_objections cs }) ≡ cs
unfolding all_objections
back_behind [] P once none = refl
back_behind (c ∷ cs) P once none =
    ap (λ u. record { statement = c.statement; objectors = u } ∷ cards (record {
      statements = all_statements cs;
      objections = P ++ all_objections (c ∷ cs);
    })) here ∙ ap (λ u. c ∷ u) (ap (λ u. cards (record { statements = all_statements cs; objections = u }))
    (sym (append_assoc P (objections_on c) (all_objections cs)))
    ∙ back_behind cs (P ++ objections_on c) (once_later (number_on c) (numbers_on cs) once) none_yet)
  where
    new : ¬ Among (numbers_on cs) (number_on c)
    new = once_first (number_on c) (numbers_on cs) once

    here : against (P ++ all_objections (c ∷ cs)) (number_on c) ≡ c.objectors
    here =
        against_append P (all_objections (c ∷ cs)) (number_on c)
        ∙ ap (λ u. u ++ against (all_objections (c ∷ cs)) (number_on c)) (none (number_on c) (0, omega arith, refl))
        ∙ first_card c cs new

    none_yet : (x : ℕ) → Among (numbers_on cs) x → against (P ++ objections_on c) x ≡ []
    none_yet x w =
        against_append P (objections_on c) x
        ∙ ap (λ u. u ++ against (objections_on c) x) (none x (among_later (number_on c) (numbers_on cs) x w))
        ∙ off_card (number_on c) c.objectors x (λ e. new (subst (Among (numbers_on cs)) (sym e) w))

pub cards_back : (cs : List Card) → Valid (bare (all_statements cs)) → cards (register_of cs) ≡ cs
unfolding against
cards_back cs v = back_behind cs [] v.once (λ x w. refl)

-- Cards that are in order make a register that is.
once_cards : (cs : List Card) → Once (numbers_on cs) → Each NamesOnce cs → (x : ℕ) → Once (against (all_objections cs) x)
unfolding all_objections against
once_cards [] once e x = λ i j h k. absurd (not-suc-le-zero k)
once_cards (c ∷ cs) once e x =
    go (ℕ_discrete (number_on c) x) (once_cards cs (once_later (number_on c) (numbers_on cs) once) e.1 x)
  where
    go : Dec (number_on c ≡ x) → Once (against (all_objections cs) x) → Once (against (all_objections (c ∷ cs)) x)
    go (yes p) f =
        subst (λ z. Once (against (all_objections (c ∷ cs)) z)) p
        (rw (first_card c cs (once_first (number_on c) (numbers_on cs) once)) e.0)
    go (no n) f = rw (later_card c cs x n) f

pub cards_valid : (cs : List Card) → SoundCards cs → Each (NamesListed cs) cs → Each NamesOnce cs → Valid (register_of cs)
cards_valid cs s listed once = record {
  few_statements = s.listed.few_statements;
  few_objections = s.few_objections;
  numbered = s.listed.numbered;
  once = s.listed.once;
  known =
      λ k h. (
        each_at (λ (o : ObjectionLine). o.objector) (Among ns) (all_objections cs) (each_objector (Among ns) cs listed) k h,
        each_at (λ (o : ObjectionLine). o.target) (Among ns) (all_objections cs) (each_target (Among ns) cs (λ x w. w)) k h,
      );
  distinct = once_distinct (all_objections cs) (once_cards cs s.listed.once once);
}
  where
    ns : List ℕ
    ns = numbers_on cs

-- Objections that stand in the order of the places of their targets, by `place`.
module _ (place : ObjectionLine → ℕ) where
  abbrev Rising : List ObjectionLine → Type 0
  Rising [] = Unit {0}
  Rising (o ∷ O) = Each (λ (p : ObjectionLine). place o ≤ place p) O × Rising O

  rising_at : (O : List ObjectionLine) → Rising O → (j k : ℕ) → j < k → k < length O
      → get_or (map place O) j 0 ≤ get_or (map place O) k 0
  rising_at [] r j k h l = absurd (not-suc-le-zero l)
  rising_at (o ∷ O) r zero zero h l = omega arith
  rising_at (o ∷ O) r zero (suc k) h l = each_at place (λ v. place o ≤ v) O r.0 k (le_of_suc-le-suc l)
  rising_at (o ∷ O) r (suc j) zero h l = omega arith
  rising_at (o ∷ O) r (suc j) (suc k) h l = rising_at O r.1 j k (le_of_suc-le-suc h) (le_of_suc-le-suc l)

  rising_of : (O : List ObjectionLine) → ((j k : ℕ) → j < k → k < length O → get_or (map place O) j 0 ≤ get_or (map place O) k 0)
      → Rising O
  rising_of [] f = tt
  rising_of (o ∷ O) f = (
    each_of place (λ v. place o ≤ v) O (λ k h. f 0 (suc k) (omega arith) (omega arith)),
    rising_of O (λ j k h l. f (suc j) (suc k) (omega arith) (omega arith)),
  )

-- the place of an objection's target
abbrev placed : List ℕ → ObjectionLine → ℕ
placed ns o = place_of ns o.target

places : (ns : List ℕ) (O : List ObjectionLine)
    → map (place_of ns) (map (λ (o : ObjectionLine). o.target) O) ≡ map (placed ns) O
places ns O = map-map (place_of ns) (λ (o : ObjectionLine). o.target) O

-- The objections on cards, whose numbers stand from the place b on: they stand in this order, and none before b.
module _ (ns : List ℕ) where
  abbrev From : ℕ → List ObjectionLine → Type 0
  From b O = Rising (placed ns) O × Each (λ (o : ObjectionLine). b ≤ placed ns o) O

  on_from : (n : ℕ) (ys : List ℕ) (O : List ObjectionLine) → From (place_of ns n) O → From (place_of ns n) (on_number n ys ++ O)
  on_from n [] O f = f
  on_from n (y ∷ ys) O f = let (r, e) = on_from n ys O f in ((e, r), (omega arith, e))

  cards_from : (cs : List Card) (b : ℕ)
      → ((i : ℕ) → i < length (numbers_on cs) → place_of ns (get_or (numbers_on cs) i 0) ≡ b + i) → From b (all_objections cs)
  unfolding all_objections
  cards_from [] b f = (tt, tt)
  cards_from (c ∷ cs) b f =
      let e : place_of ns (number_on c) ≡ b = f 0 (omega arith) ∙ (let z : b + 0 ≡ b = omega arith in z) in
      let (r, l) = cards_from cs (suc b) (λ i h. f (suc i) (omega arith) ∙ (let z : b + suc i ≡ suc b + i = omega arith in z)) in
      subst (λ v. From v (all_objections (c ∷ cs))) e (on_from (number_on c) c.objectors (all_objections cs) (
        r,
        each_weaker (λ (o : ObjectionLine). suc b ≤ placed ns o) (λ (o : ObjectionLine). place_of ns (number_on c) ≤ placed ns o)
            (λ o h. omega arith) (all_objections cs) l,
      ))

pub cards_grouped : (cs : List Card) → Valid (bare (all_statements cs)) → Grouped (register_of cs)
cards_grouped cs v j k h l =
    rw (places ns (all_objections cs)) (rising_at (placed ns) (all_objections cs) from.0 j k h l)
  where
    ns : List ℕ
    ns = numbers_on cs

    from : From ns 0 (all_objections cs)
    from =
        cards_from ns cs 0 (λ i h. place_first ns (get_or ns i 0) i h refl (λ m k. v.once m i k h)
        ∙ (let z : i ≡ 0 + i = omega arith in z))

pub catalogue_of_cards : (cs : List Card) → SoundCards cs → Each (NamesListed cs) cs → Each NamesOnce cs
    → CatalogueOf (cards_bytes cs) (register_of cs)
catalogue_of_cards cs s listed once = record {
  valid = cards_valid cs s listed once;
  is_grouped = cards_grouped cs s.listed;
  is_catalogued = ap cards_bytes (sym (cards_back cs s.listed));
}

-- The register of some statements and objections; its cards have its statements, and of each the objectors of its number.
abbrev pub made : List StatementLine → List ObjectionLine → Register
made S O = record { statements = S; objections = O }

made_statements : (S : List StatementLine) (O : List ObjectionLine) → all_statements (cards (made S O)) ≡ S
made_statements [] O = refl
made_statements (st ∷ S) O = ap (λ u. st ∷ u) (made_statements S O)

pub same_statements : (R : Register) → all_statements (cards R) ≡ R.statements
same_statements R = made_statements R.statements R.objections

each_card : (P : List ℕ → Type 0) (O : List ObjectionLine) → ((x : ℕ) → P (against O x)) → (S : List StatementLine)
    → Each (λ (c : Card). P c.objectors) (cards (made S O))
each_card P O f [] = tt
each_card P O f (st ∷ S) = (f st.number, each_card P O f S)

-- One objection more is put into the group of its target; if no objection is on what is listed before that, before all others.
pub record Put (S : List StatementLine) (o : ObjectionLine) (O : List ObjectionLine) : Type 0 where
  pub before : List ObjectionLine
  pub behind : List ObjectionLine
  pub old : all_objections (cards (made S O)) ≡ before ++ behind
  pub new : all_objections (cards (made S (o ∷ O))) ≡ before ++ (o ∷ behind)
  pub first : ((x : ℕ) → place_of (numbers (bare S)) x < place_of (numbers (bare S)) o.target → against O x ≡ []) → before ≡ []

-- if it is on none of the statements, their cards stay
not_put : (S : List StatementLine) (o : ObjectionLine) (O : List ObjectionLine) → ¬ Among (numbers (bare S)) o.target
    → cards (made S (o ∷ O)) ≡ cards (made S O)
not_put [] o O n = refl
not_put (st ∷ S) o O n =
    ap (λ u. record { statement = st; objectors = u } ∷ cards (made S (o ∷ O)))
    (against_other o O st.number (λ e. n (0, omega arith, sym e)))
    ∙ ap (λ u. card_of (made S O) st ∷ u)
    (not_put S o O (λ w. n (among_later st.number (numbers (bare S)) o.target w)))

module _ (st : StatementLine) (S : List StatementLine) (o : ObjectionLine) (O : List ObjectionLine) where
  put_first : st.number ≡ o.target → ¬ Among (numbers (bare S)) o.target → Put (st ∷ S) o O
  unfolding all_objections
  put_first e n = record {
    before = [];
    behind = all_objections (cards (made (st ∷ S) O));
    old = refl;
    new =
        ap (λ u. on_number st.number u ++ all_objections (cards (made S (o ∷ O)))) (against_on o O st.number (sym e))
        ∙ ap (λ u. record { objector = o.objector; target = u } ∷ (on_number st.number (against O st.number)
        ++ all_objections (cards (made S (o ∷ O))))) e
        ∙ ap (λ u. o ∷ (on_number st.number (against O st.number) ++ all_objections u)) (not_put S o O n);
    first = λ f. refl;
  }

  put_later : (st.number ≡ o.target → ⊥) → Put S o O → Put (st ∷ S) o O
  unfolding all_objections place_of
  put_later n p = record {
    before = here ++ p.before;
    behind = p.behind;
    old = ap (λ u. here ++ u) p.old ∙ sym (append_assoc here p.before p.behind);
    new =
        ap (λ u. on_number st.number u ++ all_objections (cards (made S (o ∷ O))))
        (against_other o O st.number (λ e. n (sym e)))
        ∙ ap (λ u. here ++ u) p.new ∙ sym (append_assoc here p.before (o ∷ p.behind));
    first =
        λ f. ap (λ u. on_number st.number u ++ p.before) (f st.number at_first)
        ∙ p.first (λ x h. f x (further x h (eqb st.number x)));
  }
    where
      ns : List ℕ
      ns = numbers (bare S)

      here : List ObjectionLine
      here = on_number st.number (against O st.number)

      at_first : place_of (st.number ∷ ns) st.number < place_of (st.number ∷ ns) o.target
      at_first = rw (eq-eqb st.number st.number refl, ne_eqb st.number o.target n) (omega arith)

      further : (x : ℕ) → place_of ns x < place_of ns o.target → (b : Bool)
          → pick_place b 0 (suc (place_of ns x)) < place_of (st.number ∷ ns) o.target
      further x h true = rw (ne_eqb st.number o.target n) (omega arith)
      further x h false = rw (ne_eqb st.number o.target n) (omega arith)

pub put : (S : List StatementLine) (o : ObjectionLine) (O : List ObjectionLine) → Once (numbers (bare S))
    → Among (numbers (bare S)) o.target → Put S o O
put [] o O once w = absurd (not-suc-le-zero w.1)
put (st ∷ S) o O once w =
    go (ℕ_discrete st.number o.target) (λ u. put S o O (once_later st.number (numbers (bare S)) once) u)
  where
    go : Dec (st.number ≡ o.target) → (Among (numbers (bare S)) o.target → Put S o O) → Put (st ∷ S) o O
    go (yes e) f =
        put_first st S o O e (subst (λ v. ¬ Among (numbers (bare S)) v) e (once_first st.number (numbers (bare S)) once))
    go (no n) f =
        put_later st S o O n (⊎_elim (λ e. absurd (n e)) f (among_cases st.number (numbers (bare S)) o.target w))

none_put : (S : List StatementLine) → all_objections (cards (made S [])) ≡ []
unfolding all_objections against
none_put [] = refl
none_put (st ∷ S) = none_put S

-- So cards have as many objections as the register, and have them in its order if that is theirs.
module _ (S : List StatementLine) (once : Once (numbers (bare S))) where
  abbrev OnListed : List ObjectionLine → Type 0
  OnListed O = Each (λ (o : ObjectionLine). Among (numbers (bare S)) o.target) O

  counted : (O : List ObjectionLine) → OnListed O → length (all_objections (cards (made S O))) ≡ length O
  counted [] l = ap length (none_put S)
  counted (o ∷ O) l =
      let p : Put S o O = put S o O once l.0 in
      let n : length (all_objections (cards (made S O))) ≡ length O = counted O l.1 in
      omega (
        arith,
        ap length p.old,
        ap length p.new,
        length-append p.before p.behind,
        length-append p.before (o ∷ p.behind),
      )

  same_order : (O : List ObjectionLine) → OnListed O → Rising (placed (numbers (bare S))) O
      → all_objections (cards (made S O)) ≡ O
  same_order [] l r = none_put S
  same_order (o ∷ O) l r =
      let p : Put S o O = put S o O once l.0 in
      let b : p.before ≡ [] = p.first (λ x h. against_none (λ v. placed (numbers (bare S)) o ≤ place_of (numbers (bare S)) v) O x
      r.0 (λ g. omega arith)) in
      p.new ∙ ap (λ u. u ++ (o ∷ p.behind)) b
      ∙ ap (λ u. o ∷ u) (sym (p.old ∙ ap (λ u. u ++ p.behind) b) ∙ same_order O l.1 r.1)

-- the objectors of a listed number stay
kept_listed : (S : List StatementLine) (O : List ObjectionLine) → Once (numbers (bare S)) → (x : ℕ)
    → Among (numbers (bare S)) x → against (all_objections (cards (made S O))) x ≡ against O x
kept_listed [] O once x w = absurd (not-suc-le-zero w.1)
kept_listed (st ∷ S) O once x w =
    go (ℕ_discrete st.number x) (λ u. kept_listed S O (once_later st.number (numbers (bare S)) once) x u)
  where
    c : Card
    c = card_of (made S O) st

    new : ¬ Among (numbers_on (cards (made S O))) st.number
    new =
        subst (λ T. ¬ Among (numbers (bare T)) st.number) (sym (made_statements S O))
        (once_first st.number (numbers (bare S)) once)

    go : Dec (st.number ≡ x)
        → (Among (numbers (bare S)) x → against (all_objections (cards (made S O))) x ≡ against O x)
        → against (all_objections (c ∷ cards (made S O))) x ≡ against O x
    go (yes e) f =
        subst (λ z. against (all_objections (c ∷ cards (made S O))) z ≡ against O z) e (first_card c (cards (made S O)) new)
    go (no n) f =
        later_card c (cards (made S O)) x n
        ∙ f (⊎_elim (λ e. absurd (n e)) (λ u. u) (among_cases st.number (numbers (bare S)) x w))

-- y objects to x exactly if it is among the objectors of x
pub has_against : (R : Register) (y x : ℕ) → Has R y x ↔ Among (against R.objections x) y
has_against R y x = (has_among R.objections y x, among_has R.objections y x)

-- Of a register in order the cards are in order, and nothing is lost.
module _ (R : Register) (v : Valid R) where
  known_objectors : Each (λ (o : ObjectionLine). Among (numbers R) o.objector) R.objections
  known_objectors =
      each_of (λ (o : ObjectionLine). o.objector) (Among (numbers R)) R.objections (λ k h. (v.known k h).0)

  known_targets : Each (λ (o : ObjectionLine). Among (numbers R) o.target) R.objections
  known_targets = each_of (λ (o : ObjectionLine). o.target) (Among (numbers R)) R.objections (λ k h. (v.known k h).1)

  -- what holds of each issued number holds of each that a card names
  each_named : (P : ℕ → Type 0) → ((y : ℕ) → Among (numbers R) y → P y)
      → Each (λ (c : Card). Each P c.objectors) (cards R)
  each_named P f =
      each_card (Each P) R.objections (λ x. each_against P R.objections x
      (each_weaker (λ (o : ObjectionLine). Among (numbers R) o.objector) (λ (o : ObjectionLine). P o.objector)
      (λ o w. f o.objector w) R.objections known_objectors)) R.statements

  listed_cards : Valid (bare (all_statements (cards R)))
  listed_cards = subst (λ S. Valid (bare S)) (sym (same_statements R)) (statements_alone R v)

  pub cards_sound : SoundCards (cards R)
  cards_sound = record {
    listed = listed_cards;
    named = each_named IsNumber (λ y (i, h, e). subst IsNumber e (v.numbered i h));
    few_objections =
        let n : length (all_objections (cards R)) ≡ length R.objections = counted R.statements v.once R.objections
        known_targets in
        omega (arith, v.few_objections);
  }

  pub cards_listed : Each (NamesListed (cards R)) (cards R)
  cards_listed =
      each_named (Among (numbers_on (cards R)))
      (λ y w. subst (λ S. Among (numbers (bare S)) y) (sym (same_statements R)) w)

  pub cards_once : Each NamesOnce (cards R)
  cards_once = each_card Once R.objections (λ x. distinct_once R.objections x v.distinct) R.statements

  pub grouped_valid : Valid (grouped R)
  grouped_valid = cards_valid (cards R) cards_sound cards_listed cards_once

  pub grouped_back : Grouped R → grouped R ≡ R
  grouped_back g = λ i. record { statements = same_statements R i; objections = same i }
    where
      ns : List ℕ
      ns = numbers R

      rising : Rising (placed ns) R.objections
      rising = rising_of (placed ns) R.objections (λ j k h l. rw (places ns R.objections) at (g j k h l))

      same : all_objections (cards R) ≡ R.objections
      same = same_order R.statements v.once R.objections known_targets rising

  pub grouped_exactly : (grouped R ≡ R) ↔ Grouped R
  grouped_exactly = (λ e. subst Grouped e (cards_grouped (cards R) listed_cards), grouped_back)

  pub against_kept : (x : ℕ) → against (grouped R).objections x ≡ against R.objections x
  against_kept x = go (among_or_not (numbers R) x)
    where
      go : Dec (Among (numbers R) x) → against (grouped R).objections x ≡ against R.objections x
      go (yes w) = kept_listed R.statements R.objections v.once x w
      go (no n) =
          unlisted (cards R) x (subst (λ S. ¬ Among (numbers (bare S)) x) (sym (same_statements R)) n)
          ∙ sym (against_none (Among (numbers R)) R.objections x known_targets n)

  pub has_kept : (y x : ℕ) → Has (grouped R) y x ↔ Has R y x
  has_kept y x = (
    λ w. among_has R.objections y x
        (subst (λ u. Among u y) (against_kept x) (has_among (grouped R).objections y x w)),
    λ w. among_has (grouped R).objections y x
        (subst (λ u. Among u y) (sym (against_kept x)) (has_among R.objections y x w)),
  )
