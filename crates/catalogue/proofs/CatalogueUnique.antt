-- A catalogue is read in one way: a text is the catalogue of one grouped register at most, it is never both accepted and refused,
-- and it gets one refusal at most. That cards are read in one way comes from `Pieces`; what is asked over all lines is then asked
-- of the same cards.
use mathlib.Core.List.{List, map-append, append-nil, append_assoc, map, [], ◌∷◌, ◌++◌}
use mathlib.Core.Logic.{inl, inr}
use mathlib.Core.Path.{refl, sym, ap, subst, subst₃, ◌≡◌, ◌∙◌}
use Prim.Native.Nat.{ℕ, suc, ◌+◌, ◌≤◌, ◌<◌}
use native.Mathlib.Omega.{arith}
use lib.ListN.{length, get_or, length-append, length-map}
use Rattle.register.specs.Number.{IsNumber}
use Rattle.register.specs.declared.StatementLine.{StatementLine}
use Rattle.register.specs.declared.Line.TheVariants.{Statement}
use Rattle.register.specs.declared.TextFault.{TextFault}
use Rattle.register.specs.declared.TextFault.TheVariants.{TooLong, Unended, Spoiled, Late, Statements, Issued, Objections}
use Rattle.register.specs.declared.TextFault.TheVariants.{Unknown, Repeated}
use Rattle.register.specs.Register.{Register, Valid, bare, written, lines, numbers}
use Rattle.register.specs.Reads.{NotEnded}
use Rattle.register.proofs.Pieces as pieces
use Rattle.register.proofs.Pieces.{no_piece, by_row}
use Rattle.register.proofs.Settled.{Settles, less?}
use Rattle.register.proofs.Unique.{not_issued}
use Rattle.catalogue.specs.Cards.{Card, card_bytes, cards_bytes, Each, CardFormed, BeginsWithCard}
use Rattle.catalogue.specs.Regrouped.{cards, all_statements, all_objections, register_of}
use Rattle.catalogue.specs.CatalogueReads.{CatalogueOf, CatalogueAccepts, CatalogueRefuses, SoundCards, CardFault, ListedIn}
use Rattle.catalogue.specs.CatalogueReads.{NamesListed, NamesOnce, FirstCard}
use Rattle.catalogue.proofs.Against.{each_of}
use Rattle.catalogue.proofs.Cards.{card_once, card_not_empty, cards_ended, objections_count}
use Rattle.catalogue.proofs.Regrouped.{cards_sound, cards_listed, cards_once, grouped_back}
use Rattle.catalogue.proofs.Sizes.{never_longer}

-- sound cards are formed
sound_formed : (cs : List Card) → SoundCards cs → Each CardFormed cs
sound_formed cs sound = go cs (each_of (λ (st : StatementLine). st.number) IsNumber (all_statements cs) numbered) sound.named
  where
    numbered : (k : ℕ) → k < length (all_statements cs) → IsNumber (get_or (numbers (bare (all_statements cs))) k 0)
    numbered k h = sound.listed.numbered k (omega (arith, length-map (all_statements cs) (λ (st : StatementLine). st.number)))

    go : (ds : List Card) → Each (λ (st : StatementLine). IsNumber st.number) (all_statements ds)
        → Each (λ (c : Card). Each IsNumber c.objectors) ds → Each CardFormed ds
    go [] f g = tt
    go (c ∷ ds) (h, f) (i, g) = ((h, i), go ds f g)

-- a text is of one list of sound cards at most
pub cards_read_once : (cs ds : List Card) → SoundCards cs → SoundCards ds → cards_bytes cs ≡ cards_bytes ds → cs ≡ ds
unfolding cards_bytes
cards_read_once cs ds p q e =
    pieces.same_whole cards_bytes card_bytes refl (λ c cs. refl) CardFormed (Each CardFormed) (λ c cs f. f) card_once
    card_not_empty
    cs ds (sound_formed cs p) (sound_formed ds q) e

-- The rows that ask what the next card is, each with the refusal that it gives at line k.
data Row (cs : List Card) (k : ℕ) (c : Card) : TextFault → Type 0 where
  many_statements : 1024 ≤ length cs → Row cs k c (Statements k)
  issued : length cs < 1024 → ListedIn cs c.statement.number → Row cs k c (Issued k)
  many_objections : length cs < 1024 → ¬ ListedIn cs c.statement.number
      → 4096 < length (all_objections cs) + length c.objectors → Row cs k c (Objections k)

-- one row applies at most
row_once : {cs : List Card} {k : ℕ} {c : Card} {r r' : TextFault} → Row cs k c r → Row cs k c r' → r ≡ r'
row_once (many_statements a) (many_statements b) = refl
row_once (many_statements a) (issued b i) = absurd (omega arith)
row_once (many_statements a) (many_objections b n h) = absurd (omega arith)
row_once (issued a i) (many_statements b) = absurd (omega arith)
row_once (issued a i) (issued b j) = refl
row_once (issued a i) (many_objections b n h) = absurd (n i)
row_once (many_objections a n h) (many_statements b) = absurd (omega arith)
row_once (many_objections a n h) (issued b i) = absurd (n i)
row_once (many_objections a n h) (many_objections b m i) = refl

-- Where sound cards go on with a card, none applies to it.
module _ (cs : List Card) (c : Card) (more : List Card) (sound : SoundCards (cs ++ (c ∷ more))) where
  abbrev statement_on : Card → StatementLine
  statement_on d = d.statement

  next_statement : lines (bare (all_statements (cs ++ (c ∷ more))))
      ≡ lines (bare (all_statements cs)) ++ (Statement c.statement ∷ lines (bare (all_statements more)))
  next_statement =
      ap (λ u. map Statement u ++ []) (map-append statement_on cs (c ∷ more))
      ∙ ap (λ u. u ++ []) (map-append Statement (all_statements cs) (all_statements (c ∷ more)))
      ∙ append_assoc (map Statement (all_statements cs)) (map Statement (all_statements (c ∷ more))) []
      ∙ ap (λ u. u ++ (Statement c.statement ∷ lines (bare (all_statements more)))) (sym (append-nil (map Statement
      (all_statements cs))))

  no_row : (k : ℕ) (r : TextFault) → ¬ Row cs k c r
  no_row k r (many_statements h) =
      omega (arith, sound.listed.few_statements, length-map (cs ++ (c ∷ more)) statement_on, length-append cs (c ∷ more))
  no_row k r (issued h i) =
      not_issued (bare (all_statements cs)) (bare (all_statements (cs ++ (c ∷ more)))) c.statement
      (lines (bare (all_statements more))) next_statement sound.listed i
  no_row k r (many_objections h n i) = omega (arith, sound.few_objections, objections_count cs c more)

-- What stops the reading at line k: no card, or a card to which a row applies.
abbrev Stop : List Card → List ℕ → ℕ → TextFault → Type 0
Stop cs rest k = pieces.Stop BeginsWithCard (Row cs k) (Spoiled k) rest

no_stop : (cs ds : List Card) (rest : List ℕ) (k : ℕ) (r : TextFault) → SoundCards ds → Stop cs rest k r
    → ¬ pieces.GoesOn card_bytes CardFormed cs rest ds
no_stop cs ds rest k r sound p (c, more, e, b) =
    pieces.no_stop card_bytes CardFormed card_once (Row cs k) (Spoiled k) rest c b
    (λ t. no_row cs c more (subst SoundCards e sound) k t) r p

-- the reading stops at one line, for one reason
stopped_once : (s : List ℕ) (k k' : ℕ) (r r' : TextFault) → CardFault s k (λ cs rest. Stop cs rest k r)
    → CardFault s k' (λ cs rest. Stop cs rest k' r') → r ≡ r'
unfolding cards_bytes
stopped_once s k k' r r' p q =
    let (e, f) = pieces.same_reading cards_bytes card_bytes refl (λ c cs. refl) CardFormed (Each CardFormed) (λ c cs f. f)
    card_once
    q.before p.before q.rest p.rest (sound_formed q.before q.sound) (sound_formed p.before p.sound)
    (sym q.is_written ∙ p.is_written) (no_stop q.before p.before q.rest k' r' p.sound q.fault)
    (no_stop p.before q.before p.rest k r q.sound p.fault) in
    go e f
  where
    go : q.before ≡ p.before → q.rest ≡ p.rest → r ≡ r'
    go same f =
        let line : k' ≡ k = q.line ∙ ap (λ (cs : List Card). suc (length cs)) same ∙ sym p.line in
        pieces.stop_once card_bytes CardFormed card_once (Row p.before k) (Spoiled k) p.rest (λ c t t'. row_once) r r'
        p.fault (subst₃ (λ cs rest n. Stop cs rest n r') same f line q.fault)

-- and not in a text that is of sound cards
not_stopped : (s : List ℕ) (cs : List Card) (k : ℕ) (r : TextFault) → SoundCards cs → s ≡ cards_bytes cs
    → CardFault s k (λ ds rest. Stop ds rest k r) → ⊥
unfolding cards_bytes
not_stopped s cs k r sound e p =
    pieces.goes_on cards_bytes card_bytes refl (λ c cs. refl) CardFormed (Each CardFormed) (λ c cs f. f) card_once card_not_empty
    p.before cs p.rest (sound_formed p.before p.sound) (sound_formed cs sound) (sym p.is_written ∙ e)
    (pieces.stop_inside card_bytes CardFormed card_once (Row p.before k) (Spoiled k) p.rest card_not_empty r p.fault)
    (no_stop p.before cs p.rest k r sound p.fault)

-- The earliest line whose card is not as it should be is one line, and there is none where all are.
module _ (P : Card → Type 0) where
  as_early : (cs ds : List Card) (c d : Card) (t u : List Card) → Each P cs → Each P ds → ¬ P c → ¬ P d
      → cs ++ (c ∷ t) ≡ ds ++ (d ∷ u) → length cs ≡ length ds
  as_early [] [] c d t u f g n m e = refl
  as_early [] (b ∷ ds) c d t u f (h, g) n m e = absurd (n (subst P (cc) h))
  as_early (a ∷ cs) [] c d t u (h, f) g n m e = absurd (m (subst P (cc) h))
  as_early (a ∷ cs) (b ∷ ds) c d t u (h, f) (i, g) n m e = ap suc (as_early cs ds c d t u f g n m (cc))

  pub first_once : (cs : List Card) (k k' : ℕ) → FirstCard P cs k → FirstCard P cs k' → k ≡ k'
  first_once cs k k' p q =
      let same = as_early p.before q.before p.card q.card p.behind q.behind p.fine q.fine p.fault
      q.fault (sym p.are ∙ q.are) in
      p.line ∙ ap suc same ∙ sym q.line

  pub first_not_each : (cs : List Card) (k : ℕ) → FirstCard P cs k → ¬ Each P cs
  first_not_each cs k p f = go p.before (subst (Each P) p.are f)
    where
      go : (ds : List Card) → ¬ Each P (ds ++ (p.card ∷ p.behind))
      go [] (h, g) = p.fault h
      go (d ∷ ds) (h, g) = go ds g

-- What can be at fault with sound cards, over all lines.
data OfAll (cs : List Card) : TextFault → Type 0 where
  unknown : (k : ℕ) → FirstCard (NamesListed cs) cs k → OfAll cs (Unknown k)
  repeated : (k : ℕ) → Each (NamesListed cs) cs → FirstCard NamesOnce cs k → OfAll cs (Repeated k)
  too_long_back : Each (NamesListed cs) cs → Each NamesOnce cs → 65535 < length (written (register_of cs)) → OfAll cs TooLong

of_all_once : {cs : List Card} {r r' : TextFault} → OfAll cs r → OfAll cs r' → r ≡ r'
of_all_once {cs} (unknown k f) (unknown j g) = ap Unknown (first_once (NamesListed cs) cs k j f g)
of_all_once {cs} (unknown k f) (repeated j e g) = absurd (first_not_each (NamesListed cs) cs k f e)
of_all_once {cs} (unknown k f) (too_long_back e o h) = absurd (first_not_each (NamesListed cs) cs k f e)
of_all_once {cs} (repeated j e g) (unknown k f) = absurd (first_not_each (NamesListed cs) cs k f e)
of_all_once {cs} (repeated k e f) (repeated j d g) = ap Repeated (first_once NamesOnce cs k j f g)
of_all_once {cs} (repeated k e f) (too_long_back d o h) = absurd (first_not_each NamesOnce cs k f o)
of_all_once {cs} (too_long_back e o h) (unknown k f) = absurd (first_not_each (NamesListed cs) cs k f e)
of_all_once {cs} (too_long_back e o h) (repeated k d f) = absurd (first_not_each NamesOnce cs k f o)
of_all_once {cs} (too_long_back e o h) (too_long_back d n i) = refl

-- the cards of a catalogue's register are those of the text, and make that register again
module _ (s : List ℕ) (R : Register) (c : CatalogueOf s R) where
  made_again : register_of (cards R) ≡ R
  made_again = grouped_back R c.valid c.is_grouped

  its_cards : (cs : List Card) → SoundCards cs → s ≡ cards_bytes cs → cs ≡ cards R
  its_cards cs sound e = cards_read_once cs (cards R) sound (cards_sound R c.valid) (sym e ∙ c.is_catalogued)

pub catalogue_of_once : (s : List ℕ) (R R' : Register) → CatalogueOf s R → CatalogueOf s R' → R ≡ R'
catalogue_of_once s R R' c d =
    sym (made_again s R c)
    ∙ ap register_of (its_cards s R' d (cards R) (cards_sound R c.valid) c.is_catalogued) ∙ made_again s R' d

pub catalogue_accepts_once : (s : List ℕ) (R R' : Register) → CatalogueAccepts s R → CatalogueAccepts s R' → R ≡ R'
catalogue_accepts_once s R R' a b = catalogue_of_once s R R' a.catalogue b.catalogue

-- Why a text is refused: the first two rows, or the line at which its reading stops, or what is at fault with all its cards.
data Cause (s : List ℕ) : TextFault → Type 0 where
  too_long : 65535 < length s → Cause s TooLong
  unended : length s ≤ 65535 → NotEnded s → Cause s Unended
  stopped : {r : TextFault} (k : ℕ) → CardFault s k (λ cs rest. Stop cs rest k r) → Cause s r
  over_all_lem : {r : TextFault} (cs : List Card) → length s ≤ 65535 → SoundCards cs → s ≡ cards_bytes cs → OfAll cs r → Cause s r

reached_as : {s : List ℕ} {k : ℕ} {F G : List Card → List ℕ → Type 0} → ((cs : List Card) (rest : List ℕ) → F cs rest → G cs rest)
    → CardFault s k F → CardFault s k G
reached_as f p =
    record {
      fits = p.fits;
      ended = p.ended;
      before = p.before;
      rest = p.rest;
      sound = p.sound;
      is_written = p.is_written;
      line = p.line;
      fault = f p.before p.rest p.fault;
    }

old_form : (s : List ℕ) (R : Register) → CatalogueOf s R → 65535 < length (written R) → Settles (65535 < length s)
    → Cause s TooLong
old_form s R c h (inl long) = too_long long
old_form s R c h (inr short) =
    over_all_lem (cards R) (omega arith) (cards_sound R c.valid) c.is_catalogued (too_long_back (cards_listed R c.valid)
    (cards_once R c.valid) (subst (λ Q. 65535 < length (written Q)) (sym (made_again s R c)) h))

cause : (s : List ℕ) (r : TextFault) → CatalogueRefuses s r → Cause s r
cause s TooLong (inl h) = too_long h
cause s TooLong (inr (R, c, h)) = old_form s R c h (less? 65535 (length s))
cause s Unended (h, n) = unended h n
cause s (Spoiled k) p = stopped k (reached_as (λ cs rest a. no_piece a.0 a.1) p)
cause s (Statements k) p = stopped k (reached_as (λ cs rest a. by_row a.0 a.1 (many_statements a.2)) p)
cause s (Issued k) p = stopped k (reached_as (λ cs rest a. by_row a.0 a.1 (issued a.2.0 a.2.1)) p)
cause s (Objections k) p =
    stopped k (reached_as (λ cs rest a. by_row a.0 a.1 (many_objections a.2.0 a.2.1 a.2.2)) p)
cause s (Unknown k) (h, (cs, sound, e, f)) = over_all_lem cs h sound e (unknown k f)
cause s (Repeated k) (h, (cs, sound, e, f)) = over_all_lem cs h sound e (repeated k f.0 f.1)
cause s (Late k) p = absurd p

pub catalogue_not_both : (s : List ℕ) (R : Register) (r : TextFault) → CatalogueAccepts s R → CatalogueRefuses s r → ⊥
catalogue_not_both s R r a p = by (cause s r p)
  where
    valid : Valid R
    valid = a.catalogue.valid

    all_fine : {b : TextFault} → ¬ OfAll (cards R) b
    all_fine (unknown k f) = first_not_each (NamesListed (cards R)) (cards R) k f (cards_listed R valid)
    all_fine (repeated k e f) = first_not_each NamesOnce (cards R) k f (cards_once R valid)
    all_fine (too_long_back e o h) =
        let i : 65535 < length (written R) = subst (λ Q. 65535 < length (written Q)) (made_again s R a.catalogue) h in
        omega (arith, a.fits)

    by : {b : TextFault} → Cause s b → ⊥
    by (too_long h) = omega (arith, a.fits, ap length a.catalogue.is_catalogued, never_longer R valid)
    by (unended h n) = cards_ended (cards R) (subst NotEnded a.catalogue.is_catalogued n)
    by {b} (stopped k q) = not_stopped s (cards R) k b (cards_sound R valid) a.catalogue.is_catalogued q
    by {b} (over_all_lem cs h sound e f) = all_fine (subst (λ ds. OfAll ds b) (its_cards s R a.catalogue cs sound e) f)

pub catalogue_refuses_once : (s : List ℕ) (r r' : TextFault) → CatalogueRefuses s r → CatalogueRefuses s r' → r ≡ r'
catalogue_refuses_once s r r' p q = go (cause s r p) (cause s r' q)
  where
    ended : (cs : List Card) → s ≡ cards_bytes cs → ¬ NotEnded s
    ended cs e n = cards_ended cs (subst NotEnded e n)

    go : {a b : TextFault} → Cause s a → Cause s b → a ≡ b
    go (too_long h) (too_long i) = refl
    go (too_long h) (unended i n) = absurd (omega arith)
    go (too_long h) (stopped k p) = absurd (omega (arith, p.fits))
    go (too_long h) (over_all_lem cs i sound e f) = absurd (omega arith)
    go (unended h n) (too_long i) = absurd (omega arith)
    go (unended h n) (unended i m) = refl
    go (unended h n) (stopped k p) = absurd (p.ended n)
    go (unended h n) (over_all_lem cs i sound e f) = absurd (ended cs e n)
    go (stopped k p) (too_long h) = absurd (omega (arith, p.fits))
    go (stopped k p) (unended h n) = absurd (p.ended n)
    go (stopped k p) (stopped j q) = stopped_once s k j _ _ p q
    go (stopped k p) (over_all_lem cs i sound e f) = absurd (not_stopped s cs k _ sound e p)
    go (over_all_lem cs h sound e f) (too_long i) = absurd (omega arith)
    go (over_all_lem cs h sound e f) (unended i n) = absurd (ended cs e n)
    go (over_all_lem cs h sound e f) (stopped k p) = absurd (not_stopped s cs k _ sound e p)
    go {b = b} (over_all_lem cs h sound e f) (over_all_lem ds i sound' d g) =
        of_all_once f (subst (λ es. OfAll es b) (cards_read_once ds cs sound' sound (sym d ∙ e)) g)
