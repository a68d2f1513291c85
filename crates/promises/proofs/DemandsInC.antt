-- The demands of each exported function, through `InC`: `FUNCTION_answers`, what a C caller learns from the two numbers, and
-- `FUNCTION_say`, `_says` and `_issues_none`, what is written where `refusal` is 0. All follow from what is shown of the calls.
use mathlib.Core.List.{List, ◌++◌}
use mathlib.Core.Logic.{◌↔◌}
use mathlib.Core.Path.{ap, refl, ◌≡◌, ◌∙◌}
use Prim.Native.Nat.{ℕ, ◌<◌}
use lib.ListN.{length, get_or, take}
use Rattle.game.specs.Book.{book_of}
use Rattle.register.specs.Register.{book, Places}
use Rattle.listing.specs.Rows.{header}
use Rattle.answer.specs.InC.{InC, in_c}
use Rattle.answer.specs.declared.Refusal.{Refusal}
use Rattle.answer.specs.Answer.{Answer}
use Rattle.std.specs.Prelude.{Ok, Err}
use Rattle.answer.specs.declared.CAnswer.{CAnswer}
use Rattle.answer.proofs.InC.{in_c_given, in_c_refused}
use Rattle.promises.specs.OnLists.{ListsRefused}
use Rattle.promises.specs.OnText.{TextRefused}
use Rattle.promises.specs.LabelCalls.{PairsLabels, PairsLengths, MovesLabels, MovesLengths, TextLabels, TextLengths}
use Rattle.promises.specs.KindCalls.{PairsKinds}
use Rattle.promises.specs.ArgumentCalls.{PairsArgument, TextArgument}
use Rattle.promises.specs.ExerciseCalls.{PairsExercise, TextExercise}
use Rattle.promises.specs.ListingCalls.{TextListing}
use Rattle.promises.specs.ReasonCalls.{TextReason}
use Rattle.promises.specs.SheetCalls.{TextSheet, TextSheetUpdate}
use Rattle.promises.specs.MendCalls.{Lent, LinesRefused, TextMend}
use Rattle.promises.specs.Fine.{PairsStatementsFine, PairsKindsFine, PairsArgumentFine, PairsExerciseFine}
use Rattle.promises.specs.Fine.{TextStatementsFine}
use Rattle.promises.specs.Fine.{TextListingFine, TextArgumentFine, TextReasonFine, TextExerciseFine, TextSheetFine}
use Rattle.promises.specs.Fine.{TextSheetUpdateFine, TextMendFine}
use Rattle.promises.specs.Demands.{Answers, AnswersInC, LabelsSay, LengthsSay, KindsSay, OfText}
use Rattle.promises.specs.WrittenDemands.{ListingSays, ReasonSays, SheetSays}
use Rattle.promises.specs.IssuedNumbers.{IssuedIn, EndsField, Field}
use Rattle.promises.proofs.IssuedNumbers.{listing_issues_none, reason_issues_none, line_issues_none, mend_issues_none}
use Rattle.promises.proofs.IssuedNumbers.{catalogue_issues_none, uncatalogue_issues_none}
use Rattle.promises.proofs.Demands.{pairs_labels_answers, pairs_lengths_answers, pairs_kinds_answers, pairs_line_answers}
use Rattle.promises.proofs.Demands.{pairs_exercise_answers, moves_labels_answers, moves_lengths_answers}
use Rattle.promises.proofs.Demands.{text_labels_answers, text_lengths_answers, text_listing_answers, text_line_answers}
use Rattle.promises.proofs.Demands.{text_reason_answers, text_exercise_answers, text_sheet_answers}
use Rattle.promises.proofs.Demands.{text_sheet_update_answers, text_mend_answers}
use Rattle.promises.specs.NumberCalls.{NumberCode, NumberText, NamesNone, IsNobodys}
use Rattle.promises.specs.Fine.{NumberCodeFine, NumberTextFine}
use Rattle.promises.proofs.Demands.{number_code_answers, number_text_answers}
use Rattle.promises.specs.CatalogueCalls.{TextCatalogue, CatalogueRefused, CatalogueText}
use Rattle.promises.specs.Fine.{TextCatalogueFine, CatalogueTextFine}
use Rattle.promises.proofs.Demands.{text_catalogue_answers, catalogue_text_answers}
use Rattle.promises.proofs.CallsSay.{pairs_labels_say, pairs_lengths_say, pairs_kinds_say, moves_labels_say}
use Rattle.promises.proofs.CallsSay.{moves_lengths_say, text_labels_say, text_lengths_say, listing_says, reason_says}
use Rattle.promises.proofs.CallsSay.{sheet_says, sheet_update_says}

-- Once for all: what is shown of a call's answers is so of the two numbers.
module _ {Rooms : Type 0} {fine : Type 0} {refuses : Refusal → Type 0} {promise : Answer → Rooms → Type 0} {rooms : Rooms} where
  pub in_c_answers : Answers fine refuses promise rooms → AnswersInC fine refuses promise rooms
  in_c_answers w = record {
    there = let (a, after, p) = w.there in (in_c a, after, (a, p, refl));
    gives = λ c after p. (
      λ z. (w.gives _ after (in_c_given (λ a. promise a after) c p z)).0 (c.value, refl),
      λ f. accepted c after p f,
    );
    refusal = λ c after p r q.
        let e : c ≡ in_c (Err r) = p.2 ∙ ap in_c (w.refusal p.0 after p.1 r q) in
        (ap (λ (d : CAnswer). d.refusal) e, ap (λ (d : CAnswer). d.value) e);
    untouched = λ c after p z. let (r, q, e, f) = in_c_refused (λ a. promise a after) c p z in w.untouched r after q;
  }
    where
      accepted : (c : CAnswer) (after : Rooms) → InC (λ a. promise a after) c → fine → c.refusal ≡ 0
      accepted c after (a, p, e) f =
          let (n, q) = (w.gives a after p).1 f in
          ap (λ (d : CAnswer). d.refusal) (e ∙ ap in_c q)

-- and what an answer given says is so where `refusal` is 0
in_c_says : {Rooms : Type 0} (promise : Answer → Rooms → Type 0) (says : ℕ → Rooms → Type 0)
    → ((n : ℕ) (after : Rooms) → promise (Ok n) after → says n after)
    → (c : CAnswer) (after : Rooms) → InC (λ a. promise a after) c → c.refusal ≡ 0 → says c.value after
in_c_says promise says w c after p z = w c.value after (in_c_given (λ a. promise a after) c p z)

module _ (marks objectors targets : List ℕ) where
  pub batqemulo_pairs_labels_answers : (room : List ℕ) → AnswersInC (PairsStatementsFine marks objectors targets room)
      (ListsRefused marks objectors targets) (PairsLabels marks objectors targets room) room
  batqemulo_pairs_labels_answers room = in_c_answers (pairs_labels_answers marks objectors targets room)

  pub batqemulo_pairs_lengths_answers : (room : List ℕ) → AnswersInC (PairsStatementsFine marks objectors targets room)
      (ListsRefused marks objectors targets) (PairsLengths marks objectors targets room) room
  batqemulo_pairs_lengths_answers room = in_c_answers (pairs_lengths_answers marks objectors targets room)

  pub batqemulo_pairs_kinds_answers : (rooms : List ℕ × List ℕ)
      → AnswersInC (PairsKindsFine marks objectors targets rooms) (ListsRefused marks objectors targets)
      (PairsKinds marks objectors targets rooms) rooms
  batqemulo_pairs_kinds_answers rooms = in_c_answers (pairs_kinds_answers marks objectors targets rooms)

  pub batqemulo_pairs_line_answers : (place : ℕ) (room : List ℕ)
      → AnswersInC (PairsArgumentFine marks objectors targets place room) (ListsRefused marks objectors targets)
      (PairsArgument marks objectors targets place room) room
  batqemulo_pairs_line_answers place room = in_c_answers (pairs_line_answers marks objectors targets place room)

  pub batqemulo_pairs_exercise_answers : (place turns : ℕ) → AnswersInC {Rooms = Unit {0}}
      (PairsExerciseFine marks objectors targets place turns) (ListsRefused marks objectors targets)
      (λ a after. PairsExercise marks objectors targets place turns a) tt
  batqemulo_pairs_exercise_answers place turns = in_c_answers (pairs_exercise_answers marks objectors targets place turns)

  pub batqemulo_pairs_labels_say : (room : List ℕ) (c : CAnswer) (after : List ℕ)
      → InC (λ a. PairsLabels marks objectors targets room a after) c → c.refusal ≡ 0
      → LabelsSay (book_of marks objectors targets) (length marks) after
  batqemulo_pairs_labels_say room =
      in_c_says (PairsLabels marks objectors targets room) _ (pairs_labels_say marks objectors targets room)

  pub batqemulo_pairs_lengths_say : (room : List ℕ) (c : CAnswer) (after : List ℕ)
      → InC (λ a. PairsLengths marks objectors targets room a after) c → c.refusal ≡ 0
      → LengthsSay (book_of marks objectors targets) (length marks) after
  batqemulo_pairs_lengths_say room =
      in_c_says (PairsLengths marks objectors targets room) _ (pairs_lengths_say marks objectors targets room)

  pub batqemulo_pairs_kinds_say : (rooms : List ℕ × List ℕ) (c : CAnswer) (after : List ℕ × List ℕ)
      → InC (λ a. PairsKinds marks objectors targets rooms a after) c → c.refusal ≡ 0
      → KindsSay (book_of marks objectors targets) (length objectors) objectors targets after.0 after.1
  batqemulo_pairs_kinds_say rooms =
      in_c_says (PairsKinds marks objectors targets rooms) _ (pairs_kinds_say marks objectors targets rooms)

-- and so of moves
module _ (marks from to room : List ℕ) where
  pub batqemulo_moves_labels_answers : AnswersInC (PairsStatementsFine marks to from room) (ListsRefused marks to from)
      (MovesLabels marks from to room) room
  batqemulo_moves_labels_answers = in_c_answers (moves_labels_answers marks from to room)

  pub batqemulo_moves_lengths_answers : AnswersInC (PairsStatementsFine marks to from room) (ListsRefused marks to from)
      (MovesLengths marks from to room) room
  batqemulo_moves_lengths_answers = in_c_answers (moves_lengths_answers marks from to room)

  pub batqemulo_moves_labels_say : (c : CAnswer) (after : List ℕ) → InC (λ a. MovesLabels marks from to room a after) c
      → c.refusal ≡ 0 → LabelsSay (book_of marks to from) (length marks) after
  batqemulo_moves_labels_say = in_c_says (MovesLabels marks from to room) _ (moves_labels_say marks from to room)

  pub batqemulo_moves_lengths_say : (c : CAnswer) (after : List ℕ) → InC (λ a. MovesLengths marks from to room a after) c
      → c.refusal ≡ 0 → LengthsSay (book_of marks to from) (length marks) after
  batqemulo_moves_lengths_say = in_c_says (MovesLengths marks from to room) _ (moves_lengths_say marks from to room)

module _ (s : List ℕ) where
  pub batqemulo_text_labels_answers : (room : List ℕ) → AnswersInC (TextStatementsFine s room) (TextRefused s) (TextLabels s room)
      room
  batqemulo_text_labels_answers room = in_c_answers (text_labels_answers s room)

  pub batqemulo_text_lengths_answers : (room : List ℕ) → AnswersInC (TextStatementsFine s room) (TextRefused s)
      (TextLengths s room) room
  batqemulo_text_lengths_answers room = in_c_answers (text_lengths_answers s room)

  pub batqemulo_listing_answers : (room : List ℕ) → AnswersInC (TextListingFine s room) (TextRefused s) (TextListing s room) room
  batqemulo_listing_answers room = in_c_answers (text_listing_answers s room)

  pub batqemulo_text_line_answers : (number : ℕ) (room : List ℕ)
      → AnswersInC (TextArgumentFine s number room) (TextRefused s) (TextArgument s number room) room
  batqemulo_text_line_answers number room = in_c_answers (text_line_answers s number room)

  pub batqemulo_reason_answers : (number : ℕ) (room : List ℕ)
      → AnswersInC (TextReasonFine s number room) (TextRefused s) (TextReason s number room) room
  batqemulo_reason_answers number room = in_c_answers (text_reason_answers s number room)

  pub batqemulo_text_exercise_answers : (number turns : ℕ) → AnswersInC {Rooms = Unit {0}} (TextExerciseFine s number turns)
      (TextRefused s) (λ a after. TextExercise s number turns a) tt
  batqemulo_text_exercise_answers number turns = in_c_answers (text_exercise_answers s number turns)

  pub batqemulo_sheet_answers : (rooms : List ℕ × List ℕ) → AnswersInC (TextSheetFine s rooms) (TextRefused s) (TextSheet s rooms)
      rooms
  batqemulo_sheet_answers rooms = in_c_answers (text_sheet_answers s rooms)

  pub batqemulo_sheet_update_answers : (rooms : List ℕ × List ℕ)
      → AnswersInC (TextSheetUpdateFine s rooms) (TextRefused s) (TextSheetUpdate s rooms) rooms
  batqemulo_sheet_update_answers rooms = in_c_answers (text_sheet_update_answers s rooms)

  pub batqemulo_mend_answers : (lent : Lent) → AnswersInC (TextMendFine s lent) (LinesRefused s) (TextMend s lent) lent
  batqemulo_mend_answers lent = in_c_answers (text_mend_answers s lent)

  pub batqemulo_text_labels_say : (room : List ℕ) (c : CAnswer) (after : List ℕ) → InC (λ a. TextLabels s room a after) c
      → c.refusal ≡ 0 → OfText s (λ R. LabelsSay (book R) (length R.statements) after)
  batqemulo_text_labels_say room = in_c_says (TextLabels s room) _ (text_labels_say s room)

  pub batqemulo_text_lengths_say : (room : List ℕ) (c : CAnswer) (after : List ℕ) → InC (λ a. TextLengths s room a after) c
      → c.refusal ≡ 0 → OfText s (λ R. LengthsSay (book R) (length R.statements) after)
  batqemulo_text_lengths_say room = in_c_says (TextLengths s room) _ (text_lengths_say s room)

  pub batqemulo_listing_says : (room : List ℕ) (c : CAnswer) (after : List ℕ) → InC (λ a. TextListing s room a after) c
      → c.refusal ≡ 0 → OfText s (λ R. ListingSays R (take c.value after))
  batqemulo_listing_says room = in_c_says (TextListing s room) _ (listing_says s room)

  pub batqemulo_reason_says : (number : ℕ) (room : List ℕ) (c : CAnswer) (after : List ℕ)
      → InC (λ a. TextReason s number room a after) c → c.refusal ≡ 0
      → OfText s (λ R. (x : ℕ) × Places R number x × ReasonSays R x (take c.value after))
  batqemulo_reason_says number room = in_c_says (TextReason s number room) _ (reason_says s number room)

  pub batqemulo_sheet_says : (rooms : List ℕ × List ℕ) (c : CAnswer) (after : List ℕ × List ℕ)
      → InC (λ a. TextSheet s rooms a after) c → c.refusal ≡ 0
      → OfText s (λ R. SheetSays R (take c.value after.0) after.1)
  batqemulo_sheet_says rooms = in_c_says (TextSheet s rooms) _ (sheet_says s rooms)

  pub batqemulo_sheet_update_says : (rooms : List ℕ × List ℕ) (c : CAnswer) (after : List ℕ × List ℕ)
      → InC (λ a. TextSheetUpdate s rooms a after) c → c.refusal ≡ 0
      → OfText s (λ R. SheetSays R (take c.value after.0) after.1)
  batqemulo_sheet_update_says rooms = in_c_says (TextSheetUpdate s rooms) _ (sheet_update_says s rooms)

  -- "The program issues no numbers."
  pub batqemulo_listing_issues_none : (room : List ℕ) (c : CAnswer) (after : List ℕ) → InC (λ a. TextListing s room a after) c
      → c.refusal ≡ 0 → OfText s (λ R. (rows : List ℕ)
      × (take c.value after ≡ header (length R.statements) (length R.objections) ++ rows)
      × ((m : ℕ) → Field rows m 9 ↔ IssuedIn s m))
  batqemulo_listing_issues_none room = in_c_says (TextListing s room) _ (listing_issues_none s room)

  pub batqemulo_reason_issues_none : (number : ℕ) (room : List ℕ) (c : CAnswer) (after : List ℕ)
      → InC (λ a. TextReason s number room a after) c → c.refusal ≡ 0
      → Field (take c.value after) number 9 × ((m : ℕ) → Field (take c.value after) m 9 → IssuedIn s m)
  batqemulo_reason_issues_none number room = in_c_says (TextReason s number room) _ (reason_issues_none s number room)

  pub batqemulo_text_line_issues_none : (number : ℕ) (room : List ℕ) (c : CAnswer) (after : List ℕ)
      → InC (λ a. TextArgument s number room a after) c → c.refusal ≡ 0 → (k : ℕ) → k < c.value → IssuedIn s (get_or after k 0)
  batqemulo_text_line_issues_none number room = in_c_says (TextArgument s number room) _ (line_issues_none s number room)

  pub batqemulo_mend_issues_none : (lent : Lent) (c : CAnswer) (after : Lent) → InC (λ a. TextMend s lent a after) c
      → c.refusal ≡ 0 → (m end : ℕ) → EndsField end → Field (take c.value after.0) m end → IssuedIn s m
  batqemulo_mend_issues_none lent = in_c_says (TextMend s lent) _ (mend_issues_none s lent)

-- the calls on one number
pub batqemulo_number_answers : (written : List ℕ) → AnswersInC {Rooms = Unit {0}} (NumberCodeFine written) (NamesNone written)
    (λ a after. NumberCode written a) tt
batqemulo_number_answers written = in_c_answers (number_code_answers written)

pub batqemulo_number_text_answers : (number : ℕ) (room : List ℕ)
    → AnswersInC (NumberTextFine number room) (IsNobodys number) (NumberText number room) room
batqemulo_number_text_answers number room = in_c_answers (number_text_answers number room)

-- the calls between the two forms
pub batqemulo_catalogue_answers : (s room : List ℕ)
    → AnswersInC (TextCatalogueFine s room) (TextRefused s) (TextCatalogue s room) room
batqemulo_catalogue_answers s room = in_c_answers (text_catalogue_answers s room)

pub batqemulo_uncatalogue_answers : (catalogue room : List ℕ)
    → AnswersInC (CatalogueTextFine catalogue room) (CatalogueRefused catalogue) (CatalogueText catalogue room) room
batqemulo_uncatalogue_answers catalogue room = in_c_answers (catalogue_text_answers catalogue room)

pub batqemulo_catalogue_issues_none : (s room : List ℕ) (c : CAnswer) (after : List ℕ) → InC (λ a. TextCatalogue s room a after) c
    → c.refusal ≡ 0 → (m end : ℕ) → EndsField end → Field (take c.value after) m end → IssuedIn s m
batqemulo_catalogue_issues_none s room = in_c_says (TextCatalogue s room) _ (catalogue_issues_none s room)

pub batqemulo_uncatalogue_issues_none : (catalogue room : List ℕ) (c : CAnswer) (after : List ℕ)
    → InC (λ a. CatalogueText catalogue room a after) c → c.refusal ≡ 0 → (m end : ℕ) → EndsField end
    → Field (take c.value after) m end → Field catalogue m 9
batqemulo_uncatalogue_issues_none catalogue room =
    in_c_says (CatalogueText catalogue room) _ (uncatalogue_issues_none catalogue room)
