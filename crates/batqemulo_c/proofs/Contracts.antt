-- The contract of each public call is its promise, and so is that of the function that C calls in its place, by the answer in two
-- numbers: `contract_CALL` for each call. Neither asks anything of its caller. So what is proved of a promise, that it leaves one
-- answer among it, is proved of the contracts. What the promises say is left to `promises`.
use mathlib.Core.Path.{refl, ◌≡◌}
use Rattle.answer.specs.InC.{InC}
use Rattle.answer.specs.Answer.{Answer}
use Rattle.answer.specs.declared.CAnswer.{CAnswer}
use Rattle.promises.specs.LabelCalls.{PairsLabels, PairsLengths, MovesLabels, MovesLengths, TextLabels, TextLengths}
use Rattle.promises.specs.KindCalls.{PairsKinds}
use Rattle.promises.specs.ArgumentCalls.{PairsArgument, TextArgument}
use Rattle.promises.specs.ExerciseCalls.{PairsExercise, TextExercise}
use Rattle.promises.specs.ListingCalls.{TextListing}
use Rattle.promises.specs.ReasonCalls.{TextReason}
use Rattle.promises.specs.SheetCalls.{TextSheet, TextSheetUpdate}
use Rattle.promises.specs.MendCalls.{TextMend}
use Rattle.promises.proofs.UniqueLabels.{unique_pairs_labels, unique_pairs_lengths, unique_moves_labels, unique_moves_lengths}
use Rattle.promises.proofs.UniqueLabels.{unique_text_labels, unique_text_lengths}
use Rattle.promises.proofs.UniqueKinds.{unique_pairs_kinds}
use Rattle.promises.proofs.UniqueAskedLists.{unique_pairs_line, unique_pairs_exercise}
use Rattle.promises.proofs.UniqueAskedText.{unique_text_line, unique_text_exercise}
use Rattle.promises.proofs.UniqueListing.{unique_text_listing}
use Rattle.promises.proofs.UniqueReason.{unique_text_reason}
use Rattle.promises.proofs.UniqueSheet.{unique_text_sheet, unique_text_sheet_update}
use Rattle.promises.proofs.UniqueMend.{unique_text_mend}
use Rattle.promises.specs.NumberCalls.{NumberCode, NumberText}
use Rattle.promises.proofs.UniqueNumber.{unique_number_code, unique_number_text}
use Rattle.promises.specs.CatalogueCalls.{TextCatalogue, CatalogueText}
use Rattle.promises.proofs.UniqueCatalogue.{unique_text_catalogue, unique_catalogue_text}
use Rattle.promises.proofs.UniqueInC.{in_c_unique}
use Rattle.call_number.proofs.number_code.Reads as number-code
use Rattle.call_number.proofs.number_text.Reads as number-text
use Rattle.call_labels_lists.proofs.pairs_labels.Reads as pairs-labels
use Rattle.call_labels_lists.proofs.pairs_lengths.Reads as pairs-lengths
use Rattle.call_labels_lists.proofs.moves_labels.Reads as moves-labels
use Rattle.call_labels_lists.proofs.moves_lengths.Reads as moves-lengths
use Rattle.call_kinds.proofs.pairs_kinds.Reads as pairs-kinds
use Rattle.call_argument.proofs.pairs_line.Reads as pairs-line
use Rattle.call_exercise.proofs.pairs_exercise.Reads as pairs-exercise
use Rattle.call_labels_text.proofs.text_labels.Reads as text-labels
use Rattle.call_labels_text.proofs.text_lengths.Reads as text-lengths
use Rattle.call_listing.proofs.text_listing.Reads as text-listing
use Rattle.call_argument.proofs.text_line.Reads as text-line
use Rattle.call_exercise.proofs.text_exercise.Reads as text-exercise
use Rattle.call_reason.proofs.text_reason.Reads as text-reason
use Rattle.call_sheet.proofs.text_sheet.Reads as text-sheet
use Rattle.call_sheet.proofs.text_sheet_update.Reads as text-sheet-update
use Rattle.call_mend.proofs.text_mend.Reads as text-mend
use Rattle.call_catalogue.proofs.text_catalogue.Reads as text-catalogue
use Rattle.call_catalogue.proofs.catalogue_text.Reads as catalogue-text
use Rattle.batqemulo_c.proofs.batqemulo_pairs_labels.Reads as c-pairs-labels
use Rattle.batqemulo_c.proofs.batqemulo_pairs_lengths.Reads as c-pairs-lengths
use Rattle.batqemulo_c.proofs.batqemulo_moves_labels.Reads as c-moves-labels
use Rattle.batqemulo_c.proofs.batqemulo_moves_lengths.Reads as c-moves-lengths
use Rattle.batqemulo_c.proofs.batqemulo_pairs_kinds.Reads as c-pairs-kinds
use Rattle.batqemulo_c.proofs.batqemulo_pairs_line.Reads as c-pairs-line
use Rattle.batqemulo_c.proofs.batqemulo_pairs_exercise.Reads as c-pairs-exercise
use Rattle.batqemulo_c.proofs.batqemulo_text_labels.Reads as c-text-labels
use Rattle.batqemulo_c.proofs.batqemulo_text_lengths.Reads as c-text-lengths
use Rattle.batqemulo_c.proofs.batqemulo_listing.Reads as c-listing
use Rattle.batqemulo_c.proofs.batqemulo_text_line.Reads as c-text-line
use Rattle.batqemulo_c.proofs.batqemulo_text_exercise.Reads as c-text-exercise
use Rattle.batqemulo_c.proofs.batqemulo_reason.Reads as c-reason
use Rattle.batqemulo_c.proofs.batqemulo_sheet.Reads as c-sheet
use Rattle.batqemulo_c.proofs.batqemulo_sheet_update.Reads as c-sheet-update
use Rattle.batqemulo_c.proofs.batqemulo_mend.Reads as c-mend
use Rattle.batqemulo_c.proofs.batqemulo_number.Reads as c-number
use Rattle.batqemulo_c.proofs.batqemulo_number_text.Reads as c-number-text
use Rattle.batqemulo_c.proofs.batqemulo_catalogue.Reads as c-catalogue
use Rattle.batqemulo_c.proofs.batqemulo_uncatalogue.Reads as c-uncatalogue

-- What is asked of a caller is nothing; and what the caller learns is the promise, of what was passed, of the answer and of the
-- rooms at exit. It leaves one answer and one content of the rooms.
pub record IsPromise {L : Type 0} {In Exit : L → Type 0} {A Rooms : Type 0} (asked : (κs : L) → In κs → Type 0)
    (learnt : (κs : L) → In κs → A → Exit κs → Type 0) (promise : (κs : L) → In κs → A → Rooms → Type 0)
    (rooms : (κs : L) → Exit κs → Rooms) : Type 1 where
  pub nothing_asked : asked ≡ (λ κs i. Unit {0})
  pub promise_learnt : learnt ≡ (λ κs i a o. promise κs i a (rooms κs o))
  pub unique : (κs : L) (i : In κs) (a a' : A) (o o' : Exit κs) → learnt κs i a o → learnt κs i a' o'
      → (a ≡ a') × (rooms κs o ≡ rooms κs o')

module _ {L : Type 0} {In Exit : L → Type 0} {Rooms : Type 0} where
  -- a call, and the function that C calls in its place
  abbrev pub InRattleAndC : (asked : (κs : L) → In κs → Type 0) (learnt : (κs : L) → In κs → Answer → Exit κs → Type 0)
      (asked-c : (κs : L) → In κs → Type 0) (learnt-c : (κs : L) → In κs → CAnswer → Exit κs → Type 0)
      (promise : (κs : L) → In κs → Answer → Rooms → Type 0) (rooms : (κs : L) → Exit κs → Rooms) → Type 1
  InRattleAndC asked learnt asked-c learnt-c promise rooms =
      IsPromise asked learnt promise rooms × IsPromise asked-c learnt-c (λ κs i c after. InC (λ a. promise κs i a after) c) rooms

  in_both : (promise : (κs : L) → In κs → Answer → Rooms → Type 0) (rooms : (κs : L) → Exit κs → Rooms)
      → ((κs : L) (i : In κs) (a a' : Answer) (after after' : Rooms) → promise κs i a after → promise κs i a' after'
      → (a ≡ a') × (after ≡ after'))
      → InRattleAndC (λ κs i. Unit {0}) (λ κs i a o. promise κs i a (rooms κs o)) (λ κs i. Unit {0})
      (λ κs i c o. InC (λ a. promise κs i a (rooms κs o)) c) promise rooms
  in_both promise rooms one = (
    record {
      nothing_asked = refl;
      promise_learnt = refl;
      unique = λ κs i a a' o o'. one κs i a a' (rooms κs o) (rooms κs o');
    },
    record {
      nothing_asked = refl;
      promise_learnt = refl;
      unique = λ κs i c c' o o'. in_c_unique (promise κs i) (one κs i) c c' (rooms κs o) (rooms κs o');
    },
  )

pub contract_pairs_labels : InRattleAndC pairs-labels.Asked pairs-labels.Learnt c-pairs-labels.Asked c-pairs-labels.Learnt
    (λ κs (marks, (objectors, (targets, (labels, _)))). PairsLabels marks.now objectors.now targets.now labels.now)
    (λ κs (_, (_, (_, (labels, _)))). labels.now)
contract_pairs_labels =
    in_both _ _ (λ κs (marks, (objectors, (targets, (labels, _)))).
    unique_pairs_labels marks.now objectors.now targets.now labels.now)

pub contract_pairs_lengths : InRattleAndC pairs-lengths.Asked pairs-lengths.Learnt c-pairs-lengths.Asked c-pairs-lengths.Learnt
    (λ κs (marks, (objectors, (targets, (lengths, _)))). PairsLengths marks.now objectors.now targets.now lengths.now)
    (λ κs (_, (_, (_, (lengths, _)))). lengths.now)
contract_pairs_lengths =
    in_both _ _ (λ κs (marks, (objectors, (targets, (lengths, _)))).
    unique_pairs_lengths marks.now objectors.now targets.now lengths.now)

pub contract_moves_labels : InRattleAndC moves-labels.Asked moves-labels.Learnt c-moves-labels.Asked c-moves-labels.Learnt
    (λ κs (marks, (from, (to, (labels, _)))). MovesLabels marks.now from.now to.now labels.now)
    (λ κs (_, (_, (_, (labels, _)))). labels.now)
contract_moves_labels =
    in_both _ _ (λ κs (marks, (from, (to, (labels, _)))). unique_moves_labels marks.now from.now to.now labels.now)

pub contract_moves_lengths : InRattleAndC moves-lengths.Asked moves-lengths.Learnt c-moves-lengths.Asked c-moves-lengths.Learnt
    (λ κs (marks, (from, (to, (lengths, _)))). MovesLengths marks.now from.now to.now lengths.now)
    (λ κs (_, (_, (_, (lengths, _)))). lengths.now)
contract_moves_lengths =
    in_both _ _ (λ κs (marks, (from, (to, (lengths, _)))). unique_moves_lengths marks.now from.now to.now lengths.now)

pub contract_pairs_kinds : InRattleAndC pairs-kinds.Asked pairs-kinds.Learnt c-pairs-kinds.Asked c-pairs-kinds.Learnt
    (λ κs (marks, (objectors, (targets, (kinds, (lengths, _))))).
    PairsKinds marks.now objectors.now targets.now (kinds.now, lengths.now))
    (λ κs (_, (_, (_, (kinds, (lengths, _))))). (kinds.now, lengths.now))
contract_pairs_kinds =
    in_both _ _ (λ κs (marks, (objectors, (targets, (kinds, (lengths, _))))).
    unique_pairs_kinds marks.now objectors.now targets.now (kinds.now, lengths.now))

pub contract_pairs_line : InRattleAndC pairs-line.Asked pairs-line.Learnt c-pairs-line.Asked c-pairs-line.Learnt
    (λ κs (marks, (objectors, (targets, (place, (line, _))))).
    PairsArgument marks.now objectors.now targets.now place line.now)
    (λ κs (_, (_, (_, (_, (line, _))))). line.now)
contract_pairs_line =
    in_both _ _ (λ κs (marks, (objectors, (targets, (place, (line, _))))).
    unique_pairs_line marks.now objectors.now targets.now place line.now)

pub contract_pairs_exercise : InRattleAndC pairs-exercise.Asked pairs-exercise.Learnt
    c-pairs-exercise.Asked c-pairs-exercise.Learnt
    (λ κs (marks, (objectors, (targets, (place, (turns, _))))) a after.
    PairsExercise marks.now objectors.now targets.now place turns a)
    (λ κs _. tt {0})
contract_pairs_exercise =
    in_both _ _ (λ κs (marks, (objectors, (targets, (place, (turns, _))))) a a' after after' p q.
    (unique_pairs_exercise marks.now objectors.now targets.now place turns a a' p q, refl))

pub contract_text_labels : InRattleAndC text-labels.Asked text-labels.Learnt c-text-labels.Asked c-text-labels.Learnt
    (λ κs (text, (room, _)). TextLabels text.now room.now)
    (λ κs (_, (room, _)). room.now)
contract_text_labels = in_both _ _ (λ κs (text, (room, _)). unique_text_labels text.now room.now)

pub contract_text_lengths : InRattleAndC text-lengths.Asked text-lengths.Learnt c-text-lengths.Asked c-text-lengths.Learnt
    (λ κs (text, (room, _)). TextLengths text.now room.now)
    (λ κs (_, (room, _)). room.now)
contract_text_lengths = in_both _ _ (λ κs (text, (room, _)). unique_text_lengths text.now room.now)

pub contract_text_listing : InRattleAndC text-listing.Asked text-listing.Learnt c-listing.Asked c-listing.Learnt
    (λ κs (text, (room, _)). TextListing text.now room.now)
    (λ κs (_, (room, _)). room.now)
contract_text_listing = in_both _ _ (λ κs (text, (room, _)). unique_text_listing text.now room.now)

pub contract_text_line : InRattleAndC text-line.Asked text-line.Learnt c-text-line.Asked c-text-line.Learnt
    (λ κs (text, (number, (line, _))). TextArgument text.now number line.now)
    (λ κs (_, (_, (line, _))). line.now)
contract_text_line = in_both _ _ (λ κs (text, (number, (line, _))). unique_text_line text.now number line.now)

pub contract_text_exercise : InRattleAndC text-exercise.Asked text-exercise.Learnt c-text-exercise.Asked c-text-exercise.Learnt
    (λ κs (text, (number, (turns, _))) a after. TextExercise text.now number turns a)
    (λ κs _. tt {0})
contract_text_exercise =
    in_both _ _ (λ κs (text, (number, (turns, _))) a a' after after' p q.
    (unique_text_exercise text.now number turns a a' p q, refl))

pub contract_text_reason : InRattleAndC text-reason.Asked text-reason.Learnt c-reason.Asked c-reason.Learnt
    (λ κs (text, (number, (room, _))). TextReason text.now number room.now)
    (λ κs (_, (_, (room, _))). room.now)
contract_text_reason = in_both _ _ (λ κs (text, (number, (room, _))). unique_text_reason text.now number room.now)

pub contract_text_sheet : InRattleAndC text-sheet.Asked text-sheet.Learnt c-sheet.Asked c-sheet.Learnt
    (λ κs (text, (sheet, (totals, _))). TextSheet text.now (sheet.now, totals.now))
    (λ κs (_, (sheet, (totals, _))). (sheet.now, totals.now))
contract_text_sheet = in_both _ _ (λ κs (text, (sheet, (totals, _))). unique_text_sheet text.now (sheet.now, totals.now))

pub contract_text_sheet_update : InRattleAndC text-sheet-update.Asked text-sheet-update.Learnt
    c-sheet-update.Asked c-sheet-update.Learnt
    (λ κs (text, (sheet, (totals, _))). TextSheetUpdate text.now (sheet.now, totals.now))
    (λ κs (_, (sheet, (totals, _))). (sheet.now, totals.now))
contract_text_sheet_update =
    in_both _ _ (λ κs (text, (sheet, (totals, _))). unique_text_sheet_update text.now (sheet.now, totals.now))

pub contract_text_mend : InRattleAndC text-mend.Asked text-mend.Learnt c-mend.Asked c-mend.Learnt
    (λ κs (text, (room, (report, (report_written, _)))). TextMend text.now (room.now, report.now, report_written.now))
    (λ κs (_, (room, (report, (report_written, _)))). (room.now, report.now, report_written.now))
contract_text_mend =
    in_both _ _ (λ κs (text, (room, (report, (report_written, _)))).
    unique_text_mend text.now (room.now, report.now, report_written.now))

pub contract_number_code : InRattleAndC number-code.Asked number-code.Learnt c-number.Asked c-number.Learnt
    (λ κs (written, _) a after. NumberCode written.now a)
    (λ κs _. tt {0})
contract_number_code = in_both _ _ (λ κs (written, _) a a' after after' p q. (unique_number_code written.now a a' p q, refl))

pub contract_number_text : InRattleAndC number-text.Asked number-text.Learnt c-number-text.Asked c-number-text.Learnt
    (λ κs (number, (room, _)). NumberText number room.now)
    (λ κs (_, (room, _)). room.now)
contract_number_text = in_both _ _ (λ κs (number, (room, _)). unique_number_text number room.now)

pub contract_text_catalogue : InRattleAndC text-catalogue.Asked text-catalogue.Learnt c-catalogue.Asked c-catalogue.Learnt
    (λ κs (text, (room, _)). TextCatalogue text.now room.now)
    (λ κs (_, (room, _)). room.now)
contract_text_catalogue = in_both _ _ (λ κs (text, (room, _)). unique_text_catalogue text.now room.now)

pub contract_catalogue_text : InRattleAndC catalogue-text.Asked catalogue-text.Learnt c-uncatalogue.Asked c-uncatalogue.Learnt
    (λ κs (catalogue, (room, _)). CatalogueText catalogue.now room.now)
    (λ κs (_, (room, _)). room.now)
contract_catalogue_text = in_both _ _ (λ κs (catalogue, (room, _)). unique_catalogue_text catalogue.now room.now)
