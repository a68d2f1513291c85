-- From the lists that the rooms hold, entry by entry, to the cards that they came from: which card an entry stands on, and which
-- card is the earliest at fault. Only the order of the cards is told here; how the entries were found is left to `Passes`.
use mathlib.Core.List.{List, map, map-append, map-id, append_assoc, append-nil, [], ◌∷◌, ◌++◌}
use mathlib.Core.Logic.{inl, inr, ◌⊎◌}
use mathlib.Core.Path.{refl, ap, sym, subst, ◌≡◌, ◌∙◌}
use Prim.Native.Nat.{ℕ, suc, ◌+◌, ◌-◌, ◌<◌}
use native.Mathlib.Nat.{not-suc-le-zero}
use native.Mathlib.Decide.{dec_lt}
use native.Mathlib.Omega.{arith}
use lib.ListN.{length, get_or, length-append, length-map, get_or-append}
use lib.Seq.{get_or-append-add}
use Rattle.register.specs.declared.ObjectionLine.{ObjectionLine}
use Rattle.register.specs.Register.{Valid, bare, numbers, objector_numbers, target_numbers, targets_of, place_of}
use Rattle.register.proofs.Order.{mapped, place_first}
use Rattle.catalogue.specs.Cards.{Card, Each}
use Rattle.catalogue.specs.Regrouped.{all_objections, all_statements, objections_on, register_of}
use Rattle.catalogue.specs.CatalogueReads.{ListedIn, NamesListed, NamesOnce, FirstCard}
use Rattle.catalogue.proofs.Against.{each_at, each_of}
use Rattle.catalogue.proofs.Regrouped.{objections_append}
use Rattle.catalogue_read.specs.CatalogueState.{places_from, Twice}

-- the objectors of cards by number, all in one list
abbrev pub codes : List Card → List ℕ
codes cs = objector_numbers (register_of cs)

module _ (n : ℕ) where
  abbrev on_number : List ℕ → List ObjectionLine
  on_number ys = map (λ (y : ℕ). record { objector = y; target = n }) ys

  codes_on : (ys : List ℕ) → map (λ (o : ObjectionLine). o.objector) (on_number ys) ≡ ys
  codes_on [] = refl
  codes_on (y ∷ ys) = ap (λ u. y ∷ u) (codes_on ys)

  places_on : (ns : List ℕ) (i : ℕ) → place_of ns n ≡ i → (ys : List ℕ)
      → map (place_of ns) (map (λ (o : ObjectionLine). o.target) (on_number ys)) ≡ map (λ (y : ℕ). i) ys
  places_on ns i e [] = refl
  places_on ns i e (y ∷ ys) = λ k. e k ∷ places_on ns i e ys k

-- The first card's objectors come first, and the last card's last.
codes_first : (c : Card) (cs : List Card) → codes (c ∷ cs) ≡ c.objectors ++ codes cs
unfolding all_objections
codes_first c cs =
    map-append (λ (o : ObjectionLine). o.objector) (objections_on c) (all_objections cs)
    ∙ ap (λ u. u ++ codes cs) (codes_on c.statement.number c.objectors)

codes_counted : (c : Card) (cs : List Card) → length (codes (c ∷ cs)) ≡ length c.objectors + length (codes cs)
codes_counted c cs = ap length (codes_first c cs) ∙ length-append c.objectors (codes cs)

pub codes_more : (cs : List Card) (c : Card) → codes (cs ++ (c ∷ [])) ≡ codes cs ++ c.objectors
unfolding all_objections
codes_more cs c =
    ap (map (λ (o : ObjectionLine). o.objector)) (objections_append cs (c ∷ []))
    ∙ map-append (λ (o : ObjectionLine). o.objector) (all_objections cs) (all_objections (c ∷ []))
    ∙ ap (λ u. codes cs ++ u) (codes_first c [] ∙ append-nil c.objectors)

pub places_more : (i : ℕ) (cs : List Card) (c : Card)
    → places_from i (cs ++ (c ∷ [])) ≡ places_from i cs ++ map (λ (y : ℕ). i + length cs) c.objectors
unfolding places_from
places_more i [] c =
    let e : i ≡ i + 0 = omega arith in
    append-nil (map (λ (y : ℕ). i) c.objectors) ∙ ap (λ k. map (λ (y : ℕ). k) c.objectors) e
places_more i (d ∷ cs) c =
    let e : suc i + length cs ≡ i + suc (length cs) = omega arith in
    ap (λ u. map (λ (y : ℕ). i) d.objectors ++ u) (places_more (suc i) cs c
    ∙ ap (λ k. places_from (suc i) cs ++ map (λ (y : ℕ). k) c.objectors) e)
    ∙ sym (append_assoc (map (λ (y : ℕ). i) d.objectors) (places_from (suc i) cs)
    (map (λ (y : ℕ). i + suc (length cs)) c.objectors))

-- The entries of the first card have its place; those behind them are the entries of the others, whose places lie behind it.
module _ (i : ℕ) (c : Card) (cs : List Card) where
  place_here : (k : ℕ) → k < length c.objectors → get_or (places_from i (c ∷ cs)) k 0 ≡ i
  unfolding places_from
  place_here k h =
      get_or-append (map (λ (y : ℕ). i) c.objectors) (places_from (suc i) cs) 0 k
      (omega (arith, length-map c.objectors (λ (y : ℕ). i)))
      ∙ mapped (λ (y : ℕ). i) c.objectors k h

  place_later : (j : ℕ) → get_or (places_from i (c ∷ cs)) (length c.objectors + j) 0 ≡ get_or (places_from (suc i) cs) j 0
  unfolding places_from
  place_later j =
      ap (λ a. get_or (map (λ (y : ℕ). i) c.objectors ++ places_from (suc i) cs) (a + j) 0)
      (sym (length-map c.objectors (λ (y : ℕ). i)))
      ∙ get_or-append-add (map (λ (y : ℕ). i) c.objectors) (places_from (suc i) cs) j 0

  -- an entry is one of the first card's, or one of the others'
  here_or_later : (k : ℕ) → k < length (codes (c ∷ cs)) → (k < length c.objectors)
      ⊎ ((j : ℕ) × (j < length (codes cs)) × (k ≡ length c.objectors + j))
  here_or_later k h = go (dec_lt k (length c.objectors))
    where
      go : Dec (k < length c.objectors) → (k < length c.objectors)
          ⊎ ((j : ℕ) × (j < length (codes cs)) × (k ≡ length c.objectors + j))
      go (yes l) = inl l
      go (no l) = inr (k - length c.objectors, omega (arith, codes_counted c cs), omega arith)

pub places_low : (cs : List Card) (i k : ℕ) → k < length (codes cs) → get_or (places_from i cs) k 0 < i + length cs
unfolding all_objections
places_low [] i k h = absurd (not-suc-le-zero h)
places_low (c ∷ cs) i k h = go (here_or_later i c cs k h) (λ j l. places_low cs (suc i) j l)
  where
    go : (k < length c.objectors) ⊎ ((j : ℕ) × (j < length (codes cs)) × (k ≡ length c.objectors + j))
        → ((j : ℕ) → j < length (codes cs) → get_or (places_from (suc i) cs) j 0 < suc i + length cs)
        → get_or (places_from i (c ∷ cs)) k 0 < i + length (c ∷ cs)
    go (inl l) rest = omega (arith, place_here i c cs k l)
    go (inr (j, l, e)) rest = rw e (omega (arith, place_later i c cs j, rest j l))

-- The places are those of the targets, where each number stands once.
places_from_lem : (ns : List ℕ) (cs : List Card) (i : ℕ)
    → ((j : ℕ) → j < length cs → place_of ns (get_or (numbers (bare (all_statements cs))) j 0) ≡ i + j)
    → map (place_of ns) (target_numbers (register_of cs)) ≡ places_from i cs
unfolding places_from all_objections
places_from_lem ns [] i f = refl
places_from_lem ns (c ∷ cs) i f =
    let e : i + 0 ≡ i = omega arith in
    ap (map (place_of ns)) (map-append (λ (o : ObjectionLine). o.target) (objections_on c) (all_objections cs))
    ∙ map-append (place_of ns) (map (λ (o : ObjectionLine). o.target) (objections_on c)) (target_numbers (register_of cs))
    ∙ (λ k. places_on c.statement.number ns i (f 0 (omega arith) ∙ e) c.objectors k
    ++ places_from_lem ns cs (suc i) (λ j h. f (suc j) (omega arith) ∙ (let z : i + suc j ≡ suc i + j = omega arith in z)) k)

pub targets_are : (cs : List Card) → Valid (bare (all_statements cs)) → targets_of (register_of cs) ≡ places_from 0 cs
targets_are cs v =
    places_from_lem ns cs 0 (λ i h. first i (omega (arith, counted)) ∙ (let z : i ≡ 0 + i = omega arith in z))
  where
    ns : List ℕ
    ns = numbers (bare (all_statements cs))

    counted : length ns ≡ length cs
    counted = length-map (all_statements cs) (λ st. st.number) ∙ length-map cs (λ c. c.statement)

    first : (i : ℕ) → i < length ns → place_of ns (get_or ns i 0) ≡ i
    first i h = place_first ns (get_or ns i 0) i h refl (λ j k. v.once j i k h)

-- what holds of an entry, counted from behind others
behind : (Q : ℕ → Type 0) (o l j : ℕ) → Q (o + (l + j)) → Q (o + l + j)
behind Q o l j = subst Q (let z : o + (l + j) ≡ o + l + j = omega arith in z)

-- What is asked of each card, told by its entries: it is so if each is fine, and not if one is at fault. The first card's first
-- entry is o.
module _ (P : Card → Type 0) (Fine Fault : ℕ → Type 0) where
  abbrev Tells : ℕ → List Card → Type 0
  Tells o [] = Unit {0}
  Tells o (c ∷ cs) =
      (((j : ℕ) → j < length c.objectors → Fine (o + j)) → P c)
      × ((j : ℕ) → j < length c.objectors → Fault (o + j) → ¬ P c) × Tells (o + length c.objectors) cs

  all_fine : (cs : List Card) (o : ℕ) → Tells o cs → ((j : ℕ) → j < length (codes cs) → Fine (o + j)) → Each P cs
  all_fine [] o t f = tt
  all_fine (c ∷ cs) o t f = (
    t.0 (λ j h. f j (omega (arith, codes_counted c cs))),
    all_fine cs (o + length c.objectors) t.2 (λ j h. behind Fine o (length c.objectors) j
        (f (length c.objectors + j) (omega (arith, codes_counted c cs)))),
  )

  -- the earliest card at fault, where the first has the place i
  record Earliest (i : ℕ) (cs : List Card) (place : ℕ) : Type 0 where
    before : List Card
    card : Card
    behind : List Card
    are : cs ≡ before ++ (card ∷ behind)
    stands : place ≡ i + length before
    fine : Each P before
    fault : ¬ P card

  earliest : (cs : List Card) (o i k : ℕ) → Tells o cs → k < length (codes cs) → ((j : ℕ) → j < k → Fine (o + j)) → Fault (o + k)
      → Earliest i cs (get_or (places_from i cs) k 0)
  unfolding all_objections
  earliest [] o i k t h f b = absurd (not-suc-le-zero h)
  earliest (c ∷ cs) o i k t h f b =
      go (here_or_later i c cs k h) (λ j l g q. earliest cs (o + ys) (suc i) j t.2 l g q)
    where
      ys : ℕ
      ys = length c.objectors

      go : (k < ys) ⊎ ((j : ℕ) × (j < length (codes cs)) × (k ≡ ys + j))
          → ((j : ℕ) → j < length (codes cs) → ((l : ℕ) → l < j → Fine (o + ys + l)) → Fault (o + ys + j)
          → Earliest (suc i) cs (get_or (places_from (suc i) cs) j 0)) → Earliest i (c ∷ cs) (get_or (places_from i (c ∷ cs)) k 0)
      go (inl l) rest = record {
        before = [];
        card = c;
        behind = cs;
        are = refl;
        stands = place_here i c cs k l ∙ (let z : i ≡ i + 0 = omega arith in z);
        fine = tt;
        fault = t.1 k l b;
      }
      go (inr (j, l, e)) rest =
          let later = rest j l (λ a p. behind Fine o ys a (f (ys + a) (omega arith)))
          (behind Fault o ys j (subst (λ a. Fault (o + a)) e b)) in
          record {
            before = c ∷ later.before;
            card = later.card;
            behind = later.behind;
            are = ap (λ u. c ∷ u) later.are;
            stands =
                ap (λ a. get_or (places_from i (c ∷ cs)) a 0) e ∙ place_later i c cs j ∙ later.stands
                ∙ (let z : suc i + length later.before ≡ i + suc (length later.before) = omega arith in z);
            fine = (t.0 (λ a p. f a (omega arith)), later.fine);
            fault = later.fault;
          }

  module _ (cs : List Card) (tells : Tells 0 cs) where
    pub each_fine : ((j : ℕ) → j < length (codes cs) → Fine j) → Each P cs
    each_fine f = all_fine cs 0 tells (λ j h. subst Fine (let z : j ≡ 0 + j = omega arith in z) (f j h))

    pub first_card : (k line : ℕ) → k < length (codes cs) → ((j : ℕ) → j < k → Fine j) → Fault k
        → line ≡ get_or (places_from 0 cs) k 0 + 1 → FirstCard P cs line
    first_card k line h f b e =
        let found = earliest cs 0 0 k tells h (λ j l. subst Fine (let z : j ≡ 0 + j = omega arith in z) (f j l))
        (subst Fault (let z : k ≡ 0 + k = omega arith in z) b) in
        record {
          before = found.before;
          card = found.card;
          behind = found.behind;
          are = found.are;
          line = omega (arith, found.stands);
          fine = found.fine;
          fault = found.fault;
        }

-- the entry j of a middle part
entry : (all pre ys rest : List ℕ) → all ≡ pre ++ (ys ++ rest) → (j : ℕ) → j < length ys
    → get_or all (length pre + j) 0 ≡ get_or ys j 0
entry all pre ys rest e j h =
    ap (λ u. get_or u (length pre + j) 0) e ∙ get_or-append-add pre (ys ++ rest) j 0 ∙ get_or-append ys rest 0 j h

module _ (all : List Card) where
  -- each number that a card names is listed
  abbrev pub ListedAt : ℕ → Type 0
  ListedAt j = ListedIn all (get_or (codes all) j 0)

  listed_from : (cs : List Card) (pre : List ℕ) → codes all ≡ pre ++ codes cs
      → Tells (NamesListed all) ListedAt (λ j. ¬ ListedAt j) (length pre) cs
  listed_from [] pre e = tt
  listed_from (c ∷ cs) pre e = (
    (λ f. each_of (λ (y : ℕ). y) (ListedIn all) ys (λ k h. subst (λ u. ListedIn all (get_or u k 0)) (sym (map-id ys))
        (subst (ListedIn all) (at k h) (f k h)))),
    (λ j h b p. b (subst (ListedIn all) (sym (at j h)) (subst (λ u. ListedIn all (get_or u j 0)) (map-id ys)
        (each_at (λ (y : ℕ). y) (ListedIn all) ys p j h)))),
    subst (λ o. Tells (NamesListed all) ListedAt (λ j. ¬ ListedAt j) o cs) (length-append pre ys)
        (listed_from cs (pre ++ ys) (whole ∙ sym (append_assoc pre ys (codes cs)))),
  )
    where
      ys : List ℕ
      ys = c.objectors

      whole : codes all ≡ pre ++ (ys ++ codes cs)
      whole = e ∙ ap (λ u. pre ++ u) (codes_first c cs)

      at : (j : ℕ) → j < length ys → get_or (codes all) (length pre + j) 0 ≡ get_or ys j 0
      at = entry (codes all) pre ys (codes cs) whole

  pub listed_tells : Tells (NamesListed all) ListedAt (λ j. ¬ ListedAt j) 0 all
  listed_tells = listed_from all [] refl

  -- and none is named twice on a card
  abbrev pub TwiceAt : ℕ → Type 0
  TwiceAt = Twice (codes all) (places_from 0 all)

  once_from : (cs : List Card) (i : ℕ) (pre prep : List ℕ) → codes all ≡ pre ++ codes cs
      → places_from 0 all ≡ prep ++ places_from i cs → length prep ≡ length pre →
      ((j : ℕ) → j < length prep → get_or prep j 0 < i)
      → Tells NamesOnce (λ j. ¬ TwiceAt j) TwiceAt (length pre) cs
  unfolding places_from
  once_from [] i pre prep e p n low = tt
  once_from (c ∷ cs) i pre prep e p n low = (
    (λ f a b h k q. f b k (
      length pre + a,
      omega arith,
      code a (omega arith) ∙ q ∙ sym (code b k),
      place a (omega arith) ∙ sym (place b k),
    )),
    (λ j h (a, l, q, r) once. twice j h a l q r once (dec_lt a (length pre))),
    subst (λ o. Tells NamesOnce (λ j. ¬ TwiceAt j) TwiceAt o cs) (length-append pre ys)
        (once_from cs (suc i) (pre ++ ys) (prep ++ here) (whole ∙ sym (append_assoc pre ys (codes cs)))
        (p ∙ sym (append_assoc prep here (places_from (suc i) cs)))
        (omega (arith, length-append pre ys, length-append prep here, long)) (λ j h. lower j h (dec_lt j (length prep)))),
  )
    where
      ys : List ℕ
      ys = c.objectors

      here : List ℕ
      here = map (λ (y : ℕ). i) ys

      long : length here ≡ length ys
      long = length-map ys (λ (y : ℕ). i)

      whole : codes all ≡ pre ++ (ys ++ codes cs)
      whole = e ∙ ap (λ u. pre ++ u) (codes_first c cs)

      code : (j : ℕ) → j < length ys → get_or (codes all) (length pre + j) 0 ≡ get_or ys j 0
      code = entry (codes all) pre ys (codes cs) whole

      place : (j : ℕ) → j < length ys → get_or (places_from 0 all) (length pre + j) 0 ≡ i
      place j h =
          ap (λ a. get_or (places_from 0 all) (a + j) 0) (sym n)
          ∙ entry (places_from 0 all) prep here (places_from (suc i) cs) p j (omega (arith, long)) ∙ mapped (λ (y : ℕ). i) ys j h

      earlier : (a : ℕ) → a < length pre → get_or (places_from 0 all) a 0 < i
      earlier a h =
          let l : a < length prep = omega arith in
          let q : get_or (places_from 0 all) a 0 ≡ get_or prep a 0 = ap (λ u. get_or u a 0) p
          ∙ get_or-append prep (here ++ places_from (suc i) cs) 0 a l in
          omega (arith, low a l)

      lower : (j : ℕ) → j < length (prep ++ here) → Dec (j < length prep) → get_or (prep ++ here) j 0 < suc i
      lower j h (yes l) = omega (arith, low j l, get_or-append prep here 0 j l)
      lower j h (no l) =
          let k : ℕ = j - length prep in
          let at : k < length ys = omega (arith, length-append prep here, long) in
          let q : get_or (prep ++ here) j 0 ≡ i = ap (λ a. get_or (prep ++ here) a 0)
          (let z : j ≡ length prep + k = omega arith in z) ∙ get_or-append-add prep here k 0 ∙ mapped (λ (y : ℕ). i) ys k at in
          omega arith

      twice : (j : ℕ) → j < length ys → (a : ℕ) → a < length pre + j
          → get_or (codes all) a 0 ≡ get_or (codes all) (length pre + j) 0
          → get_or (places_from 0 all) a 0 ≡ get_or (places_from 0 all) (length pre + j) 0 → NamesOnce c → Dec (a < length pre) →
          ⊥
      twice j h a l q r once (yes g) = omega (arith, earlier a g, place j h)
      twice j h a l q r once (no g) =
          let b : ℕ = a - length pre in
          let z : length pre + b ≡ a = omega arith in
          once b j (omega arith) h
          (sym (code b (omega arith)) ∙ ap (λ t. get_or (codes all) t 0) z ∙ q ∙ code j h)

  pub once_tells : Tells NamesOnce (λ j. ¬ TwiceAt j) TwiceAt 0 all
  once_tells = once_from all 0 [] [] refl refl refl (λ j h. absurd (not-suc-le-zero h))
