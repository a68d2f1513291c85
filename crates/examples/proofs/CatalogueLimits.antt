-- The limits of a catalogue hold. What is beyond one is refused there; the register whose old form alone is too long has 64
-- statements of eight digits, each objected to by each, and is in order by tests that compute.
use mathlib.Core.List.{List, append-nil, [], ◌∷◌, ◌++◌}
use mathlib.Core.Logic.{inl, inr}
use mathlib.Core.Path.{refl, ap, sym, subst, ◌≡◌, ◌∙◌}
use Prim.Native.Nat.{ℕ, zero, suc, ◌+◌, ◌*◌, ◌≤◌, ◌<◌}
use native.Mathlib.Omega.{arith}
use lib.Dec.{leb→le, ltb→lt}
use lib.ListN.{length, length-append, length-map}
use Rattle.game.specs.Book.{any, all}
use Rattle.game.proofs.UpTo.{up_to}
use Rattle.register.specs.Texts.{decimal, decimal_in}
use Rattle.register.specs.Number.{number_bytes, IsNumber}
use Rattle.register.specs.Register.{bare, bytes, written}
use Rattle.register.specs.Reads.{NotEnded}
use Rattle.register.specs.declared.TextFault.TheVariants.{TooLong, Statements, Objections}
use Rattle.register.proofs.Number.{number_test, number_short, plain_number}
use Rattle.register.proofs.OneMore.{empty_valid}
use Rattle.catalogue.specs.Cards.{Card, card_bytes, cards_bytes, fields_bytes, Each, CardFormed}
use Rattle.catalogue.specs.Regrouped.{card_of, cards, grouped, register_of, all_statements, all_objections}
use Rattle.catalogue.specs.CatalogueReads.{CardFault, CatalogueRefuses, NextCard, NamesListed, NamesOnce, SoundCards}
use Rattle.catalogue.proofs.Cards.{cards_bytes_append, cards_ended, objections_count, sound_more, card_split, behind_number}
use Rattle.catalogue.proofs.Regrouped.{cards_back, cards_valid, cards_sound, cards_listed, cards_once, catalogue_of_cards}
use Rattle.catalogue.proofs.Sizes.{grouped_length}
use Rattle.catalogue.proofs.ThereAndBack.{catalogue_accepted_lem}
use Rattle.answer.specs.declared.Refusal.TheVariants.{Text}
use Rattle.std.specs.Prelude.{Err}
use Rattle.examples.specs.Limits.{text_of}
use Rattle.examples.specs.CatalogueTable.{CatalogueLimits, card_with}
use Rattle.examples.proofs.Limits.{limits_hold}
use Rattle.examples.proofs.Text.{issued, numbered, differ, known, distinct, ordered}
use Rattle.examples.proofs.Test.{refuted}
use Rattle.examples.proofs.Fault.{on_register}
use Rattle.examples.proofs.CardFault.{sound, listed, once}

-- one card more is reached, and is the next
module _ (cs : List Card) (c : Card) (is-sound : SoundCards cs) (formed : CardFormed c)
    (fits : length (cards_bytes cs ++ card_bytes c) ≤ 65535) where
  reached : (k : ℕ) (Fault : List Card → Card → Type 0) → k ≡ suc (length cs) → Fault cs c
      → CardFault (cards_bytes cs ++ card_bytes c) k (λ cs rest. NextCard rest (Fault cs))
  unfolding cards_bytes
  reached k Fault line f = record {
    fits = fits;
    ended = λ e. cards_ended (cs ++ (c ∷ [])) (subst NotEnded whole e);
    before = cs;
    rest = card_bytes c;
    sound = is-sound;
    is_written = refl;
    line = line;
    fault = (c, (formed, ([], sym (append-nil (card_bytes c)))), f);
  }
    where
      whole : cards_bytes cs ++ card_bytes c ≡ cards_bytes (cs ++ (c ∷ []))
      whole = ap (λ u. cards_bytes cs ++ u) (sym (append-nil (card_bytes c))) ∙ sym (cards_bytes_append cs (c ∷ []))

-- how long a card is
fields_short : (ys : List ℕ) → Each IsNumber ys → length (fields_bytes ys) ≤ 10 * length ys
unfolding fields_bytes
fields_short [] f = omega arith
fields_short (y ∷ ys) (n, f) =
    omega (arith, length-append (number_bytes y) (fields_bytes ys), number_short y n, fields_short ys f)

card_short : (c : Card) → CardFormed c → length (card_bytes c) ≤ 14 + 10 * length c.objectors
card_short c (n, f) =
    omega (
      arith,
      ap length (card_split c []),
      length-append (card_bytes c) [],
      length-append (number_bytes c.statement.number) (9 ∷ behind_number c []),
      length-append (fields_bytes c.objectors) (10 ∷ []),
      number_short c.statement.number n,
      fields_short c.objectors f,
    )

-- two cards with 4,097 objectors
module _ (ys zs : List ℕ) (f : Each IsNumber ys) (g : Each IsNumber zs) (few : length ys ≤ 4096)
    (many : length ys + length zs ≡ 4097) where
  abbrev first : Card
  first = card_with 1 ys

  abbrev second : Card
  second = card_with 2 zs

  formed_first : CardFormed first
  formed_first = (plain_number 1 (omega arith) (omega arith), f)

  formed_second : CardFormed second
  formed_second = (plain_number 2 (omega arith) (omega arith), g)

  sound_first : SoundCards (first ∷ [])
  unfolding all_objections issued any
  sound_first =
      sound_more [] first (cards_sound (bare []) empty_valid) formed_first (omega arith)
      ((refuted (on_register (bare []) 1)).is tt)
      (omega (arith, few))

  past_objectors : CatalogueRefuses (card_bytes first ++ card_bytes second) (Objections 2)
  unfolding cards_bytes all_objections issued any
  past_objectors =
      subst (λ u. CatalogueRefuses (u ++ card_bytes second) (Objections 2)) (append-nil (card_bytes first))
      (reached (first ∷ []) second sound_first formed_second (omega (
        arith,
        length-append (card_bytes first ++ []) (card_bytes second),
        length-append (card_bytes first) [],
        card_short first formed_first,
        card_short second formed_second,
        many,
      )) 2 _ refl (
        omega arith,
        (refuted (on_register (bare (all_statements (first ∷ []))) 2)).is tt,
        omega (arith, objections_count [] first [], many),
      ))

-- 64 statements of eight digits, each objected to by each
abbrev crowd_number : ℕ → ℕ
crowd_number i = 10000000 + i

abbrev crowd_card : ℕ → Card
crowd_card i = card_with (crowd_number i) (up_to 64 crowd_number)

abbrev crowd : List Card
crowd = up_to 64 crowd_card

each_up_to : {A : Type 0} (P : A → Type 0) (n : ℕ) (a : ℕ → A) → ((i : ℕ) → P (a i)) → Each P (up_to n a)
each_up_to P zero a p = tt
each_up_to P (suc n) a p = (p 0, each_up_to P n (λ i. a (suc i)) (λ i. p (suc i)))

crowd_sound : SoundCards crowd
unfolding all_objections any all issued numbered differ known distinct ordered number_test
crowd_sound = (sound crowd).is tt

crowd_listed : Each (NamesListed crowd) crowd
unfolding any issued
crowd_listed = each_up_to (NamesListed crowd) 64 crowd_card (λ i. (listed crowd (crowd_card i)).is tt)

crowd_once : Each NamesOnce crowd
unfolding all
crowd_once = each_up_to NamesOnce 64 crowd_card (λ i. (once (crowd_card i)).is tt)

crowd_long : 65535 < length (written (register_of crowd))
unfolding all_objections bytes number_bytes decimal decimal_in
crowd_long = ltb→lt 65535 (length (written (register_of crowd))) tt

crowd_short : length (cards_bytes crowd) ≤ 65535
unfolding cards_bytes fields_bytes number_bytes decimal decimal_in
crowd_short = leb→le (length (cards_bytes crowd)) 65535 tt

pub catalogue_limits_hold : CatalogueLimits
catalogue_limits_hold = record {
  long = λ s room h. (Err (Text TooLong), (inl (TooLong, inl h, refl), refl), refl);
  old_form_long = λ R room v h. (
    Err (Text TooLong),
    (
      inl (
        TooLong,
        inr (
          grouped R,
          catalogue_of_cards (cards R) (cards_sound R v) (cards_listed R v) (cards_once R v),
          omega (arith, grouped_length R v),
        ),
        refl,
      ),
      refl,
    ),
    refl,
  );
  catalogue_short = (
    register_of crowd,
    cards_valid crowd crowd_sound crowd_listed crowd_once,
    crowd_long,
    subst (λ (cs : List Card). length (cards_bytes cs) ≤ 65535) (sym (cards_back crowd crowd_sound.listed)) crowd_short,
  );
  statement_more = λ R c room v full w fits.
      let n : length (cards R) ≡ 1024 = length-map R.statements (card_of R) ∙ full in (
        Err (Text (Statements 1025)),
        (
          inl (Statements 1025, reached (cards R) c (cards_sound R v) w fits 1025 _ (omega (arith, n)) (omega (arith, n)), refl),
          refl,
        ),
        refl,
      );
  objectors = let (R, a) = limits_hold.objections in (R, a, (grouped R, catalogue_accepted_lem (text_of 65 4096) R a));
  objector_more = λ ys zs room f g few many. (
    Err (Text (Objections 2)),
    (inl (Objections 2, past_objectors ys zs f g few many, refl), refl),
    refl,
  );
}
