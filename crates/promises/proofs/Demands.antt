-- Demand 1 of each public call, from its promise: `CALL_answers`. What is written, by demands 2 and 3, is said in `CallsSay`,
-- which numbers of statements in `IssuedNumbers`, and the same of the exported functions in `DemandsInC`.
use mathlib.Core.List.{List}
use mathlib.Core.Logic.{⊎_elim, inl}
use mathlib.Core.Path.{refl, ◌≡◌, ap, subst}
use Prim.Native.Nat.{ℕ, ◌≤◌, ◌<◌}
use native.Mathlib.Omega.{arith}
use lib.ListN.{length, length-map}
use Rattle.game.specs.Book.{book_of}
use Rattle.game.specs.Account.{Account}
use Rattle.game.specs.Argument.{Argument}
use Rattle.game.proofs.Argument.{line_unique}
use Rattle.lists.specs.Refuses.{Lists}
use Rattle.register.specs.Register.{Register, Places, Issued, book, written}
use Rattle.register.specs.Reads.{Accepts}
use Rattle.register.specs.Number.{number_bytes}
use Rattle.register.proofs.Order.{place_once}
use Rattle.listing.proofs.Listing.{listing_once}
use Rattle.reason.specs.Reasons.{IsReason}
use Rattle.reason.proofs.Reasons.{reason_once}
use Rattle.answer.specs.declared.Refusal.{Refusal}
use Rattle.answer.specs.Answer.{Promised, RefusedOn, GivenOn, OnInput, Short, Asks, Written}
use Rattle.answer.specs.Answer.{Answer}
use Rattle.std.specs.Prelude.{Ok, Err}
use Rattle.answer.proofs.Promises.{asks_none}
use Rattle.answer.proofs.Inputs.{Apart, on_apart}
use Rattle.promises.specs.OnLists.{ListsRefused, OnLists}
use Rattle.catalogue.specs.Regrouped.{catalogued}
use Rattle.promises.specs.OnText.{TextRefused, OnText}
use Rattle.promises.specs.LabelCalls.{PairsStatements, PairsLabels, PairsLengths, MovesLabels, MovesLengths, TextStatements}
use Rattle.promises.specs.LabelCalls.{TextLabels, TextLengths}
use Rattle.promises.specs.KindCalls.{PairsKinds, KindsShort}
use Rattle.promises.specs.ArgumentCalls.{PairsArgumentShort, PairsArgument, TextArgument, by_number}
use Rattle.promises.specs.ExerciseCalls.{PairsExercise, PairsExerciseIn, TextExercise, TextExerciseIn}
use Rattle.promises.specs.ListingCalls.{TextListing, ListingShort}
use Rattle.promises.specs.ReasonCalls.{TextReason}
use Rattle.promises.specs.SheetCalls.{TextSheet, SheetShort, TextSheetUpdate, UpdateRefused}
use Rattle.promises.specs.MendCalls.{Lent, LinesRefused, TextMend, MendedShort}
use Rattle.promises.specs.Fine.{PairsStatementsFine, PairsKindsFine, PairsArgumentFine, PairsExerciseFine}
use Rattle.promises.specs.Fine.{TextStatementsFine}
use Rattle.promises.specs.Fine.{TextListingFine, TextAskedFine, TextArgumentFine, TextReasonFine, TextExerciseFine}
use Rattle.promises.specs.Fine.{TextSheetFine, TextSheetUpdateFine, TextMendFine}
use Rattle.promises.specs.Demands.{Answers}
use Rattle.promises.proofs.OnText.{text_apart}
use Rattle.promises.proofs.OnLists.{lists_apart}
use Rattle.promises.proofs.Answerable.{pairs_statements_there, pairs_kinds_there, pairs_line_there, pairs_exercise_there}
use Rattle.promises.proofs.Answerable.{text_statements_there, text_listing_there, text_line_there, text_reason_there}
use Rattle.promises.proofs.Answerable.{text_exercise_there, text_sheet_there, text_sheet_update_there, text_mend_there}
use Rattle.promises.proofs.AskedOnText.{list_unique}
use Rattle.promises.proofs.UniqueLabels.{pairs_statements_unique, text_statements_unique}
use Rattle.promises.proofs.UniqueKinds.{unique_pairs_kinds}
use Rattle.promises.proofs.UniqueAskedLists.{unique_pairs_line, unique_pairs_exercise}
use Rattle.promises.proofs.UniqueAskedText.{unique_text_exercise}
use Rattle.promises.proofs.UniqueListing.{unique_text_listing}
use Rattle.promises.proofs.UniqueSheet.{unique_text_sheet, unique_text_sheet_update}
use Rattle.promises.proofs.UniqueMend.{unique_text_mend, lines_apart}
use Rattle.promises.specs.NumberCalls.{Names, NumberCode, NumberText, NamesNone, IsNobodys}
use Rattle.promises.specs.Fine.{NumberCodeFine, NumberTextFine}
use Rattle.promises.proofs.OnNumber.{written_apart, code_apart}
use Rattle.promises.proofs.Answerable.{number_code_there, number_text_there}
use Rattle.promises.proofs.Answerable.{text_catalogue_there, catalogue_text_there}
use Rattle.promises.specs.CatalogueCalls.{TextCatalogue, CatalogueRefused, CatalogueText}
use Rattle.promises.specs.Fine.{TextCatalogueFine, CatalogueTextFine}
use Rattle.promises.proofs.OnCatalogue.{catalogue_apart}
use Rattle.promises.proofs.WrittenInput.{WrittenFor, written_for_unique}
use Rattle.promises.proofs.UniqueNumber.{unique_number_code}

-- What a call does with its input, from its promise's being unique: generic over promises of the form that all calls have.
module _ {Rooms : Type 0} (refuses : Refusal → Type 0) (gives : ℕ → Rooms → Type 0) (first : Refusal → Type 0) (fine : Type 0)
    (rooms : Rooms) (unique : (a a' : Answer) (after after' : Rooms) → Promised refuses gives rooms a after
    → Promised refuses gives rooms a' after' → a ≡ a') where
  answers : (a : Answer) × (after : Rooms) × Promised refuses gives rooms a after → ((r : Refusal) → first r → refuses r)
      → ((r : Refusal) → refuses r → fine → ⊥)
      → ((n : ℕ) (after : Rooms) → gives n after → fine) → Answers fine first (Promised refuses gives rooms) rooms
  answers there due amiss well = record {
    there = there;
    gives = λ a after p. (yes a after p, no a after p);
    refusal = λ a after p r f. unique a (Err r) after rooms p (due r f, refl);
    untouched = λ r after p. p.1;
  }
    where
      yes : (a : Answer) (after : Rooms) → Promised refuses gives rooms a after → (n : ℕ) × (a ≡ Ok n) → fine
      yes (Ok n) after p e = well n after p
      yes (Err r) after p (n, e) = let z : ◌≡◌ {A = ℕ} 0 1 = cc in absurd (omega arith)

      no : (a : Answer) (after : Rooms) → Promised refuses gives rooms a after → fine → (n : ℕ) × (a ≡ Ok n)
      no (Ok n) after p f = (n, refl)
      no (Err r) after p f = absurd (amiss r p.0 f)

module _ (marks objectors targets : List ℕ) where
  -- nothing is amiss where the lists are accepted and nothing is refused later
  accepted : (later : Refusal → Type 0) (r : Refusal) → RefusedOn {Made = Unit {0}} (λ m. Lists marks objectors targets)
      (ListsRefused marks objectors targets) (λ m. later) r → Lists marks objectors targets → ¬ later r → ⊥
  accepted later r = on_apart (lists_apart marks objectors targets) (λ m. later) r tt

  pairs_statements_answers : (number : Account → ℕ) (room : List ℕ) → Answers (PairsStatementsFine marks objectors targets room)
      (ListsRefused marks objectors targets) (PairsStatements marks objectors targets number room) room
  pairs_statements_answers number room =
      answers _ _ (ListsRefused marks objectors targets) (PairsStatementsFine marks objectors targets room) room
      (λ a a' after after' p q. (pairs_statements_unique marks objectors targets number room a a' after after' p q).0)
      (pairs_statements_there marks objectors targets number room) (λ r. inl)
      (λ r p f. accepted (Short (length room < length marks)) r p f.0 (λ s. omega (arith, s.0, f.1)))
      (λ n after (m, l, g). (l, omega (arith, g.0, g.1.fits)))

  pub pairs_labels_answers : (room : List ℕ) → Answers (PairsStatementsFine marks objectors targets room)
      (ListsRefused marks objectors targets) (PairsLabels marks objectors targets room) room
  pairs_labels_answers = pairs_statements_answers _

  pub pairs_lengths_answers : (room : List ℕ) → Answers (PairsStatementsFine marks objectors targets room)
      (ListsRefused marks objectors targets) (PairsLengths marks objectors targets room) room
  pairs_lengths_answers = pairs_statements_answers _

  pub pairs_kinds_answers : (rooms : List ℕ × List ℕ) → Answers (PairsKindsFine marks objectors targets rooms)
      (ListsRefused marks objectors targets) (PairsKinds marks objectors targets rooms) rooms
  pairs_kinds_answers rooms =
      answers _ _ (ListsRefused marks objectors targets) (PairsKindsFine marks objectors targets rooms) rooms
      (λ a a' after after' p q. (unique_pairs_kinds marks objectors targets rooms a a' after after' p q).0)
      (pairs_kinds_there marks objectors targets rooms) (λ r. inl)
      (λ r p f. accepted (Short (KindsShort objectors rooms)) r p f.0
      (λ s. ⊎_elim (λ h. omega (arith, h, f.1)) (λ h. omega (arith, h, f.2)) s.0))
      (λ n after (m, l, g). (l, omega (arith, g.0, g.1.fits), omega (arith, g.0, g.2.fits)))

  pub pairs_line_answers : (place : ℕ) (room : List ℕ) → Answers (PairsArgumentFine marks objectors targets place room)
      (ListsRefused marks objectors targets) (PairsArgument marks objectors targets place room) room
  pairs_line_answers place room =
      answers _ _ (ListsRefused marks objectors targets) (PairsArgumentFine marks objectors targets place room) room
      (λ a a' after after' p q. (unique_pairs_line marks objectors targets place room a a' after after' p q).0)
      (pairs_line_there marks objectors targets place room) (λ r. inl)
      (λ r p f. accepted (Asks (place < length marks) 0 (PairsArgumentShort marks objectors targets place room)) r p f.0
      (λ s. asks_none (place < length marks) 0 (PairsArgumentShort marks objectors targets place room) r s f.1
      (omega arith)
      (λ t. omega (arith, t.2, f.2 t.0 t.1)))) (λ n after (m, l, (h, (k, is, w))).
      (l, h, λ k' is'. omega (arith, w.1, ap length (line_unique (book_of marks objectors targets) is' is))))

  pub pairs_exercise_answers : (place turns : ℕ) → Answers {Rooms = Unit {0}}
      (PairsExerciseFine marks objectors targets place turns) (ListsRefused marks objectors targets)
      (λ a after. PairsExercise marks objectors targets place turns a) tt
  pairs_exercise_answers place turns = record {
    there = whole.there;
    gives = λ a after p. whole.gives a tt p;
    refusal = λ a after p. whole.refusal a tt p;
    untouched = λ r after p. refl;
  }
    where
      whole : Answers {Rooms = Unit {0}} (PairsExerciseFine marks objectors targets place turns)
          (ListsRefused marks objectors targets) (OnLists marks objectors targets (Asks (place < length marks) turns ⊥)
          (PairsExerciseIn marks objectors targets place turns) tt) tt
      whole =
          answers _ _ (ListsRefused marks objectors targets) (PairsExerciseFine marks objectors targets place turns) tt
          (λ a a' after after' p q. unique_pairs_exercise marks objectors targets place turns a a' p q)
          (pairs_exercise_there marks objectors targets place turns) (λ r. inl)
          (λ r p f. accepted (Asks (place < length marks) turns ⊥) r p f.0
          (λ s. asks_none (place < length marks) turns ⊥ r s f.1 f.2 (λ z. z))) (λ n after (m, l, g). (l, g.0, g.1))

-- and so of moves
pub moves_labels_answers : (marks from to room : List ℕ) → Answers (PairsStatementsFine marks to from room)
    (ListsRefused marks to from) (MovesLabels marks from to room) room
moves_labels_answers marks from to = pairs_labels_answers marks to from

pub moves_lengths_answers : (marks from to room : List ℕ) → Answers (PairsStatementsFine marks to from room)
    (ListsRefused marks to from) (MovesLengths marks from to room) room
moves_lengths_answers marks from to = pairs_lengths_answers marks to from

module _ (s : List ℕ) where
  text_statements_answers : (number : Account → ℕ) (room : List ℕ) → Answers (TextStatementsFine s room) (TextRefused s)
      (TextStatements s number room) room
  text_statements_answers number room =
      answers _ _ (TextRefused s) (TextStatementsFine s room) room
      (λ a a' after after' p q. (text_statements_unique s number room a a' after after' p q).0)
      (text_statements_there s number room) (λ r. inl)
      (λ r p f. on_apart (text_apart s) (λ R. Short (length room < length R.statements)) r f.0 p f.1
      (λ h. omega (arith, h.0, f.2))) (λ n after g. (g.0, g.1, omega (arith, g.2.0, g.2.1.fits)))

  pub text_labels_answers : (room : List ℕ) → Answers (TextStatementsFine s room) (TextRefused s) (TextLabels s room) room
  text_labels_answers = text_statements_answers _

  pub text_lengths_answers : (room : List ℕ) → Answers (TextStatementsFine s room) (TextRefused s) (TextLengths s room) room
  text_lengths_answers = text_statements_answers _

  pub text_listing_answers : (room : List ℕ) → Answers (TextListingFine s room) (TextRefused s) (TextListing s room) room
  text_listing_answers room =
      answers _ _ (TextRefused s) (TextListingFine s room) room
      (λ a a' after after' p q. (unique_text_listing s room a a' after after' p q).0) (text_listing_there s room) (λ r. inl)
      (λ r p f. on_apart (text_apart s) (λ R. Short (ListingShort room R)) r f.0 p f.1
      (λ h. omega (arith, h.0.2, f.2 h.0.0 h.0.1)))
      (λ n after (R, a, (l, is, w)). (R, a, λ k i. omega (arith, w.1, ap length (listing_once R k l i is))))

  -- what is asked about the statement of a number, where the answer is a list that is settled by the statement: `Is R x l`
  module _ (number : ℕ) (Is : Register → ℕ → List ℕ → Type 0)
      (once : (R : Register) (x : ℕ) (l l' : List ℕ) → Is R x l → Is R x l' → l ≡ l') (told : Register → List ℕ → List ℕ)
      (as_long : (R : Register) (l : List ℕ) → length (told R l) ≡ length l) (room : List ℕ) where
    abbrev short : Register → Type 0
    short R = (x : ℕ) × Places R number x × ((l : List ℕ) × Is R x l × (length room < length l))

    abbrev gives : Register → ℕ → List ℕ → Type 0
    gives R n after = (x : ℕ) × Places R number x × ((l : List ℕ) × Is R x l × Written (told R l) room n after)

    list_answers : (a : Answer) × (after : List ℕ) × OnText s (λ R. Asks (Issued R number) 0 (short R)) gives room a after
        → Answers (TextAskedFine s Is number room) (TextRefused s)
        (OnText s (λ R. Asks (Issued R number) 0 (short R)) gives room) room
    list_answers there =
        answers _ _ (TextRefused s) (TextAskedFine s Is number room) room
        (λ a a' after after' p q. (list_unique s number Is once told as_long room a a' after after' p q).0) there (λ r. inl)
        (λ r p f. on_apart (text_apart s) (λ R. Asks (Issued R number) 0 (short R)) r f.0 p f.1
        (λ h. asks_none (Issued f.0 number) 0 (short f.0) r h f.2 (omega arith)
        (λ (x, q, (l, is, t)). omega (arith, t, f.3 x q l is)))) well
      where
        well : (n : ℕ) (after : List ℕ) → GivenOn (Accepts s) gives n after → TextAskedFine s Is number room
        well n after (R, a, (x, q, (l, is, (c, f, e)))) = (
          R,
          a,
          (x, q.0, q.1),
          λ x' q' l' is'. omega (
            arith,
            f,
            as_long R l,
            ap length (once R x l' l (subst (λ i. Is R i l') (place_once R a.valid number x' x q' q) is') is),
          ),
        )

  pub text_line_answers : (number : ℕ) (room : List ℕ) → Answers (TextArgumentFine s number room) (TextRefused s)
      (TextArgument s number room) room
  text_line_answers number room =
      list_answers number (λ R x l. Argument (book R) x l) (λ R x l l'. line_unique (book R)) by_number
      (λ R l. length-map l _) room (text_line_there s number room)

  pub text_reason_answers : (number : ℕ) (room : List ℕ) → Answers (TextReasonFine s number room) (TextRefused s)
      (TextReason s number room) room
  text_reason_answers number room =
      list_answers number IsReason reason_once (λ R l. l) (λ R l. refl) room (text_reason_there s number room)

  pub text_sheet_answers : (rooms : List ℕ × List ℕ) → Answers (TextSheetFine s rooms) (TextRefused s) (TextSheet s rooms) rooms
  text_sheet_answers rooms =
      answers _ _ (TextRefused s) (TextSheetFine s rooms) rooms
      (λ a a' after after' p q. (unique_text_sheet s rooms a a' after after' p q).0) (text_sheet_there s rooms) (λ r. inl)
      (λ r p f. on_apart (text_apart s) (λ R. Short (SheetShort (book R) rooms)) r f.0 p f.1
      (λ h. ⊎_elim (λ l. omega (arith, l, f.2)) (λ l. omega (arith, l, f.3)) h.0))
      (λ n after (R, a, (l, is, w, t)). (R, a, omega (arith, w.1, is.size), t.fits))

  pub text_sheet_update_answers : (rooms : List ℕ × List ℕ) → Answers (TextSheetUpdateFine s rooms) (TextRefused s)
      (TextSheetUpdate s rooms) rooms
  text_sheet_update_answers rooms =
      answers _ _ (TextRefused s) (TextSheetUpdateFine s rooms) rooms
      (λ a a' after after' p q. (unique_text_sheet_update s rooms a a' after after' p q).0) (text_sheet_update_there s rooms)
      (λ r. inl)
      (λ r p f. on_apart (text_apart s) (λ R. UpdateRefused (book R) rooms) r f.0 p f.1
      (⊎_elim (λ h. h.0 f.2) (λ h. omega (arith, h.1.0, f.3))))
      (λ n after (R, a, (old, (l, is, w, t))). (R, a, old, t.fits))

  pub text_mend_answers : (lent : Lent) → Answers (TextMendFine s lent) (LinesRefused s) (TextMend s lent) lent
  text_mend_answers lent =
      answers _ _ (LinesRefused s) (TextMendFine s lent) lent
      (λ a a' after after' p q. (unique_text_mend s lent a a' after after' p q).0) (text_mend_there s lent) (λ r. inl)
      (λ r p (ls, t, a, b). on_apart (lines_apart s) (λ ls. Short (MendedShort ls lent)) r ls p t
      (λ q. ⊎_elim (λ l. omega (arith, l, a)) (λ l. omega (arith, l, b)) q.0))
      (λ n after (ls, t, (w, v)). (ls, t, w.1, v.1))

  pub text_exercise_answers : (number turns : ℕ) → Answers {Rooms = Unit {0}} (TextExerciseFine s number turns) (TextRefused s)
      (λ a after. TextExercise s number turns a) tt
  text_exercise_answers number turns = record {
    there = whole.there;
    gives = λ a after p. whole.gives a tt p;
    refusal = λ a after p. whole.refusal a tt p;
    untouched = λ r after p. refl;
  }
    where
      later : Register → Refusal → Type 0
      later R = Asks (Issued R number) turns ⊥

      whole : Answers {Rooms = Unit {0}} (TextExerciseFine s number turns) (TextRefused s)
          (OnText s later (λ R. TextExerciseIn R number turns) tt) tt
      whole =
          answers _ _ (TextRefused s) (TextExerciseFine s number turns) tt
          (λ a a' after after' p q. unique_text_exercise s number turns a a' p q) (text_exercise_there s number turns) (λ r. inl)
          (λ r p f. on_apart (text_apart s) later r f.0 p f.1
          (λ h. asks_none (Issued f.0 number) turns ⊥ r h f.2 f.3
          (λ z. z))) (λ n after (R, a, (few, (x, q, is))). (R, a, (x, q.0, q.1), few))

-- A call that writes one list for what its input makes: an answer is given exactly if the input is accepted and the list fits.
module _ {Made : Type 0} {accepts : Made → Type 0} {refuses : Refusal → Type 0} (apart : Apart accepts refuses)
    (told : Made → List ℕ) (room : List ℕ) where
  written_for_answers : (a : Answer) × (after : List ℕ) × WrittenFor apart told room a after → (fine : Type 0)
      → ((m : Made) × accepts m × (length (told m) ≤ length room) → fine)
      → (fine → (m : Made) × accepts m × (length (told m) ≤ length room))
      → Answers fine refuses (WrittenFor apart told room) room
  written_for_answers there fine to from =
      answers _ _ refuses fine room (λ a a' after after' p q. (written_for_unique apart told room a a' after after' p q).0) there
      (λ r. inl)
      (λ r p f. let (m, t, k) = from f in on_apart apart (λ m. Short (length room < length (told m))) r m p t
      (λ s. omega (arith, s.0, k))) (λ n after (m, t, w). to (m, t, w.1))

-- the calls on one number
pub number_code_answers : (written : List ℕ) → Answers {Rooms = Unit {0}} (NumberCodeFine written) (NamesNone written)
    (λ a after. NumberCode written a) tt
number_code_answers written = record {
  there = whole.there;
  gives = λ a after p. whole.gives a tt p;
  refusal = λ a after p. whole.refusal a tt p;
  untouched = λ r after p. refl;
}
  where
    whole : Answers {Rooms = Unit {0}} (NumberCodeFine written) (NamesNone written)
        (OnInput {Rooms = Unit {0}} (Names written) (NamesNone written) (λ number r. ⊥) (λ number n after. n ≡ number) tt) tt
    whole =
        answers _ _ (NamesNone written) (NumberCodeFine written) tt (λ a a' after after' p q. unique_number_code written a a' p q)
        (number_code_there written) (λ r. inl)
        (λ r p (n, f). on_apart (written_apart written) (λ number r. ⊥) r n p f (λ s. s)) (λ n after (m, p, e). (m, p))

pub number_text_answers : (number : ℕ) (room : List ℕ) → Answers (NumberTextFine number room) (IsNobodys number)
    (NumberText number room) room
number_text_answers number room =
    written_for_answers (code_apart number) (λ l. l) room (number_text_there number room) (NumberTextFine number room)
    (λ (l, (h, e), k). (h, omega (arith, k, ap length e))) (λ (h, k). (number_bytes number, (h, refl), k))

-- the calls between the two forms
pub text_catalogue_answers : (s room : List ℕ) → Answers (TextCatalogueFine s room) (TextRefused s) (TextCatalogue s room) room
text_catalogue_answers s room =
    written_for_answers (text_apart s) catalogued room (text_catalogue_there s room) (TextCatalogueFine s room) (λ f. f) (λ f. f)

pub catalogue_text_answers : (catalogue room : List ℕ) → Answers (CatalogueTextFine catalogue room) (CatalogueRefused catalogue)
    (CatalogueText catalogue room) room
catalogue_text_answers catalogue room =
    written_for_answers (catalogue_apart catalogue) written room (catalogue_text_there catalogue room)
    (CatalogueTextFine catalogue room) (λ f. f) (λ f. f)
