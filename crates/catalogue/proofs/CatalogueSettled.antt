-- Every text is accepted as a catalogue or refused, without a word about the code. Lines are taken one by one, with the computing
-- reader of `CardGuess`; what is asked over all lines is decided once they are all read.
use mathlib.Core.List.{List, append_assoc, append-nil, [], ◌∷◌, ◌++◌}
use mathlib.Core.Logic.{inl, inr, ◌⊎◌}
use mathlib.Core.Path.{refl, ap, sym, subst, ◌≡◌, ◌∙◌}
use Prim.Native.Nat.{ℕ, zero, suc, ◌+◌, ◌≤◌, ◌<◌}
use native.Mathlib.Omega.{arith}
use lib.ListN.{length, get_or, length-append}
use Rattle.register.specs.declared.TextFault.{TextFault}
use Rattle.register.specs.declared.TextFault.TheVariants.{TooLong, Unended, Spoiled, Statements, Issued, Objections, Unknown}
use Rattle.register.specs.declared.TextFault.TheVariants.{Repeated}
use Rattle.register.specs.Register.{Register, bare, written}
use Rattle.register.specs.Reads.{NotEnded}
use Rattle.register.proofs.OneMore.{empty_valid}
use Rattle.register.proofs.Settled.{Settles, less?, same?, below?, issued?, ended?, both?}
use Rattle.catalogue.specs.Cards.{Card, card_bytes, cards_bytes, Each, BeginsWithCard}
use Rattle.catalogue.specs.Regrouped.{all_statements, all_objections, register_of}
use Rattle.catalogue.specs.CatalogueReads.{CatalogueOf, CatalogueAccepts, CatalogueRefuses, SoundCards, CardFault, ListedIn}
use Rattle.catalogue.specs.CatalogueReads.{NamesListed, NamesOnce, FirstCard}
use Rattle.catalogue.proofs.CardGuess.{card?}
use Rattle.catalogue.proofs.Cards.{cards_bytes_append, card_not_empty, sound_more}
use Rattle.catalogue.proofs.Regrouped.{catalogue_of_cards}

-- What is decided of one is decided of each; and where it does not hold of each card, there is a first of which it does not.
each? : {A : Type 0} (P : A → Type 0) → ((a : A) → Settles (P a)) → (l : List A) → Settles (Each P l)
each? P d [] = inl tt
each? P d (a ∷ l) = both? (d a) (each? P d l)

pub each_or_first : (P : Card → Type 0) → ((c : Card) → Settles (P c)) → (cs : List Card)
    → Each P cs ⊎ ((k : ℕ) × FirstCard P cs k)
each_or_first P d [] = inl tt
each_or_first P d (c ∷ cs) = go (d c) (each_or_first P d cs)
  where
    go : Settles (P c) → Each P cs ⊎ ((k : ℕ) × FirstCard P cs k) → Each P (c ∷ cs) ⊎ ((k : ℕ) × FirstCard P (c ∷ cs) k)
    go (inr n) q =
        inr (1, record { before = []; card = c; behind = cs; are = refl; line = refl; fine = tt; fault = n })
    go (inl p) (inl f) = inl (p, f)
    go (inl p) (inr (k, q)) =
        inr (
          suc k,
          record {
            before = c ∷ q.before;
            card = q.card;
            behind = q.behind;
            are = ap (λ (ds : List Card). c ∷ ds) q.are;
            line = ap suc q.line;
            fine = (p, q.fine);
            fault = q.fault;
          },
        )

names_listed? : (cs : List Card) (c : Card) → Settles (NamesListed cs c)
names_listed? cs c = each? (ListedIn cs) (issued? (bare (all_statements cs))) c.objectors

names_once? : (c : Card) → Settles (NamesOnce c)
names_once? c = go (below? (length ys) Again (λ j. below? j (Same j) (λ i. same? (get_or ys i 0) (get_or ys j 0))))
  where
    ys : List ℕ
    ys = c.objectors

    Same : ℕ → ℕ → Type 0
    Same j i = get_or ys i 0 ≡ get_or ys j 0

    Again : ℕ → Type 0
    Again j = (i : ℕ) × (i < j) × Same j i

    go : Settles ((j : ℕ) × (j < length ys) × Again j) → Settles (NamesOnce c)
    go (inl (j, h, (i, l, e))) = inr (λ f. f i j l h e)
    go (inr n) = inl (λ i j l h e. n (j, h, (i, l, e)))

-- Accepted, or refused.
abbrev pub CatalogueSettles : List ℕ → Type 0
CatalogueSettles s = ((R : Register) × CatalogueAccepts s R) ⊎ ((r : TextFault) × CatalogueRefuses s r)

-- a text that fits and is ended, line by line
module _ (s : List ℕ) (fits : length s ≤ 65535) (ended : ¬ NotEnded s) where
  -- all cards are read
  all_read : (cs : List Card) → SoundCards cs → s ≡ cards_bytes cs → CatalogueSettles s
  all_read cs sound e =
      go (each_or_first (NamesListed cs) (names_listed? cs) cs) (each_or_first NamesOnce names_once? cs)
      (less? 65535 (length (written (register_of cs))))
    where
      catalogue : Each (NamesListed cs) cs → Each NamesOnce cs → CatalogueOf s (register_of cs)
      catalogue a b = subst (λ u. CatalogueOf u (register_of cs)) (sym e) (catalogue_of_cards cs sound a b)

      go : Each (NamesListed cs) cs ⊎ ((k : ℕ) × FirstCard (NamesListed cs) cs k)
          → Each NamesOnce cs ⊎ ((k : ℕ) × FirstCard NamesOnce cs k) → Settles (65535 < length (written (register_of cs)))
          → CatalogueSettles s
      go (inr (k, f)) q r = inr (Unknown k, (fits, (cs, sound, e, f)))
      go (inl a) (inr (k, f)) r = inr (Repeated k, (fits, (cs, sound, e, (a, f))))
      go (inl a) (inl b) (inl long) = inr (TooLong, inr (register_of cs, catalogue a b, long))
      go (inl a) (inl b) (inr short) = inl (register_of cs, record { catalogue = catalogue a b; fits = omega arith })

  -- one card, after those that were read so far; `again` settles what is left behind it
  module _ (cs : List Card) (rest : List ℕ) (sound : SoundCards cs) (e : s ≡ cards_bytes cs ++ rest)
      (again : (ds : List Card) (left : List ℕ) → length left < length rest → SoundCards ds → s ≡ cards_bytes ds ++ left
      → CatalogueSettles s) where
    reached : (Fault : List Card → List ℕ → Type 0) → Fault cs rest → CardFault s (suc (length cs)) Fault
    reached Fault f = record {
      fits = fits;
      ended = ended;
      before = cs;
      rest = rest;
      sound = sound;
      is_written = e;
      line = refl;
      fault = f;
    }

    k : ℕ
    k = suc (length cs)

    passed : (c : Card) (left : List ℕ) → rest ≡ card_bytes c ++ left → s ≡ cards_bytes (cs ++ (c ∷ [])) ++ left
    unfolding cards_bytes
    passed c left f =
        e ∙ ap (λ u. cards_bytes cs ++ u) (f ∙ ap (λ u. u ++ left) (sym (append-nil (card_bytes c))))
        ∙ sym (append_assoc (cards_bytes cs) (card_bytes c ++ []) left)
        ∙ ap (λ u. u ++ left) (sym (cards_bytes_append cs (c ∷ [])))

    next_card : (c : Card) → BeginsWithCard c rest → Settles (length cs < 1024) → Settles (ListedIn cs c.statement.number)
        → Settles (4096 < length (all_objections cs) + length c.objectors) → CatalogueSettles s
    unfolding k
    next_card c b (inr many) i o = inr (Statements k, reached _ (c, b, omega arith))
    next_card c b (inl few) (inl i) o = inr (Issued k, reached _ (c, b, (few, i)))
    next_card c b (inl few) (inr i) (inl o) = inr (Objections k, reached _ (c, b, (few, i, o)))
    next_card c (f, (left, g)) (inl few) (inr i) (inr o) =
        again (cs ++ (c ∷ [])) left (omega (arith, ap length g, length-append (card_bytes c) left, card_not_empty c []))
        (sound_more cs c sound f few i (omega arith)) (passed c left g)

    next : 0 < length rest → ((c : Card) × BeginsWithCard c rest) ⊎ ((c : Card) → ¬ BeginsWithCard c rest) → CatalogueSettles s
    unfolding k
    next h (inr none) = inr (Spoiled k, reached _ (h, none))
    next h (inl (c, b)) =
        next_card c b (less? (length cs) 1024) (issued? (bare (all_statements cs)) c.statement.number)
        (less? 4096 (length (all_objections cs) + length c.objectors))

  step : (cs : List Card) (rest : List ℕ) → SoundCards cs → s ≡ cards_bytes cs ++ rest
      → ((ds : List Card) (left : List ℕ) → length left < length rest → SoundCards ds → s ≡ cards_bytes ds ++ left
      → CatalogueSettles s) → CatalogueSettles s
  step cs [] sound e again = all_read cs sound (e ∙ append-nil (cards_bytes cs))
  step cs (b ∷ t) sound e again = next cs (b ∷ t) sound e again (omega arith) (card? (b ∷ t))

  settle : (n : ℕ) (cs : List Card) (rest : List ℕ) → length rest ≤ n → SoundCards cs → s ≡ cards_bytes cs ++ rest
      → CatalogueSettles s
  settle zero cs rest h sound e = step cs rest sound e (λ ds left l p f. absurd (omega arith))
  settle (suc n) cs rest h sound e = step cs rest sound e (λ ds left l p f. settle n ds left (omega arith) p f)

-- Every text is accepted or refused.
pub catalogue_settled : (s : List ℕ) → ((R : Register) × CatalogueAccepts s R) ⊎ ((r : TextFault) × CatalogueRefuses s r)
unfolding cards_bytes all_objections
catalogue_settled s = go (less? 65535 (length s)) (ended? s)
  where
    no_cards : SoundCards []
    no_cards = record { listed = empty_valid; named = tt; few_objections = omega arith }

    go : Settles (65535 < length s) → Settles (NotEnded s) → CatalogueSettles s
    go (inl long) q = inr (TooLong, inl long)
    go (inr short) (inl q) = inr (Unended, (omega arith, q))
    go (inr short) (inr q) = settle s (omega arith) q (length s) [] s (omega arith) no_cards refl
