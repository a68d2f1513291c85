-- What is unique for Rattle is unique for C: `unique_FUNCTION` for each exported function.
use mathlib.Core.List.{List}
use mathlib.Core.Path.{ap, sym, ◌≡◌, ◌∙◌}
use Prim.Native.Nat.{ℕ}
use Rattle.answer.specs.Answer.{Answer}
use Rattle.promises.specs.LabelCalls.{PairsLabels, PairsLengths, MovesLabels, MovesLengths, TextLabels, TextLengths}
use Rattle.promises.specs.KindCalls.{PairsKinds}
use Rattle.promises.specs.ArgumentCalls.{PairsArgument, TextArgument}
use Rattle.promises.specs.ExerciseCalls.{PairsExercise, TextExercise}
use Rattle.promises.proofs.UniqueLabels.{unique_pairs_labels, unique_pairs_lengths, unique_moves_labels}
use Rattle.promises.proofs.UniqueLabels.{unique_moves_lengths, unique_text_labels, unique_text_lengths}
use Rattle.promises.proofs.UniqueKinds.{unique_pairs_kinds}
use Rattle.promises.proofs.UniqueAskedLists.{unique_pairs_line, unique_pairs_exercise}
use Rattle.promises.specs.ListingCalls.{TextListing}
use Rattle.promises.proofs.UniqueListing.{unique_text_listing}
use Rattle.promises.proofs.UniqueAskedText.{unique_text_line, unique_text_exercise}
use Rattle.promises.specs.ReasonCalls.{TextReason}
use Rattle.promises.proofs.UniqueReason.{unique_text_reason}
use Rattle.promises.specs.SheetCalls.{TextSheet, TextSheetUpdate}
use Rattle.promises.proofs.UniqueSheet.{unique_text_sheet, unique_text_sheet_update}
use Rattle.promises.specs.MendCalls.{Lent, TextMend}
use Rattle.promises.proofs.UniqueMend.{unique_text_mend}
use Rattle.promises.specs.NumberCalls.{NumberCode, NumberText}
use Rattle.promises.proofs.UniqueNumber.{unique_number_code, unique_number_text}
use Rattle.promises.specs.CatalogueCalls.{TextCatalogue, CatalogueText}
use Rattle.promises.proofs.UniqueCatalogue.{unique_text_catalogue, unique_catalogue_text}
use Rattle.answer.specs.InC.{InC, in_c}
use Rattle.answer.specs.declared.CAnswer.{CAnswer}

pub in_c_unique : {Rooms : Type 0} (P : Answer → Rooms → Type 0)
    → ((a a' : Answer) (after after' : Rooms) → P a after → P a' after' → (a ≡ a') × (after ≡ after'))
    → (c c' : CAnswer) (after after' : Rooms) → InC (λ a. P a after) c → InC (λ a. P a after') c' → (c ≡ c') × (after ≡ after')
in_c_unique P one c c' after after' (a, p, e) (a', p', e') = let (q, f) = one a a' after after' p p' in
    (e ∙ ap in_c q ∙ sym e', f)

pub unique_batqemulo_pairs_labels : (marks objectors targets : List ℕ) (room : List ℕ) (c c' : CAnswer) (after after' : List ℕ)
    → InC (λ a. PairsLabels marks objectors targets room a after) c
    → InC (λ a. PairsLabels marks objectors targets room a after') c' → (c ≡ c') × (after ≡ after')
unique_batqemulo_pairs_labels marks objectors targets room =
    in_c_unique (PairsLabels marks objectors targets room) (unique_pairs_labels marks objectors targets room)

pub unique_batqemulo_pairs_lengths : (marks objectors targets : List ℕ) (room : List ℕ) (c c' : CAnswer) (after after' : List ℕ)
    → InC (λ a. PairsLengths marks objectors targets room a after) c
    → InC (λ a. PairsLengths marks objectors targets room a after') c' → (c ≡ c') × (after ≡ after')
unique_batqemulo_pairs_lengths marks objectors targets room =
    in_c_unique (PairsLengths marks objectors targets room) (unique_pairs_lengths marks objectors targets room)

pub unique_batqemulo_pairs_kinds : (marks objectors targets : List ℕ) (rooms : List ℕ × List ℕ) (c c' : CAnswer)
    (after after' : List ℕ × List ℕ) → InC (λ a. PairsKinds marks objectors targets rooms a after) c
    → InC (λ a. PairsKinds marks objectors targets rooms a after') c' → (c ≡ c') × (after ≡ after')
unique_batqemulo_pairs_kinds marks objectors targets rooms =
    in_c_unique (PairsKinds marks objectors targets rooms) (unique_pairs_kinds marks objectors targets rooms)

pub unique_batqemulo_moves_labels : (marks from to : List ℕ) (room : List ℕ) (c c' : CAnswer) (after after' : List ℕ)
    → InC (λ a. MovesLabels marks from to room a after) c → InC (λ a. MovesLabels marks from to room a after') c' → (c ≡ c')
    × (after ≡ after')
unique_batqemulo_moves_labels marks from to room =
    in_c_unique (MovesLabels marks from to room) (unique_moves_labels marks from to room)

pub unique_batqemulo_moves_lengths : (marks from to : List ℕ) (room : List ℕ) (c c' : CAnswer) (after after' : List ℕ)
    → InC (λ a. MovesLengths marks from to room a after) c → InC (λ a. MovesLengths marks from to room a after') c' → (c ≡ c')
    × (after ≡ after')
unique_batqemulo_moves_lengths marks from to room =
    in_c_unique (MovesLengths marks from to room) (unique_moves_lengths marks from to room)

pub unique_batqemulo_text_labels : (s room : List ℕ) (c c' : CAnswer) (after after' : List ℕ)
    → InC (λ a. TextLabels s room a after) c → InC (λ a. TextLabels s room a after') c' → (c ≡ c') × (after ≡ after')
unique_batqemulo_text_labels s room = in_c_unique (TextLabels s room) (unique_text_labels s room)

pub unique_batqemulo_text_lengths : (s room : List ℕ) (c c' : CAnswer) (after after' : List ℕ)
    → InC (λ a. TextLengths s room a after) c → InC (λ a. TextLengths s room a after') c' → (c ≡ c') × (after ≡ after')
unique_batqemulo_text_lengths s room = in_c_unique (TextLengths s room) (unique_text_lengths s room)

pub unique_batqemulo_listing : (s room : List ℕ) (c c' : CAnswer) (after after' : List ℕ)
    → InC (λ a. TextListing s room a after) c → InC (λ a. TextListing s room a after') c' → (c ≡ c') × (after ≡ after')
unique_batqemulo_listing s room = in_c_unique (TextListing s room) (unique_text_listing s room)

pub unique_batqemulo_pairs_line : (marks objectors targets : List ℕ) (place : ℕ) (room : List ℕ) (c c' : CAnswer)
    (after after' : List ℕ) → InC (λ a. PairsArgument marks objectors targets place room a after) c
    → InC (λ a. PairsArgument marks objectors targets place room a after') c' → (c ≡ c') × (after ≡ after')
unique_batqemulo_pairs_line marks objectors targets place room =
    in_c_unique (PairsArgument marks objectors targets place room) (unique_pairs_line marks objectors targets place room)

pub unique_batqemulo_text_line : (s : List ℕ) (number : ℕ) (room : List ℕ) (c c' : CAnswer) (after after' : List ℕ)
    → InC (λ a. TextArgument s number room a after) c → InC (λ a. TextArgument s number room a after') c'
    → (c ≡ c') × (after ≡ after')
unique_batqemulo_text_line s number room = in_c_unique (TextArgument s number room) (unique_text_line s number room)

pub unique_batqemulo_reason : (s : List ℕ) (number : ℕ) (room : List ℕ) (c c' : CAnswer) (after after' : List ℕ)
    → InC (λ a. TextReason s number room a after) c → InC (λ a. TextReason s number room a after') c' → (c ≡ c') ×
    (after ≡ after')
unique_batqemulo_reason s number room = in_c_unique (TextReason s number room) (unique_text_reason s number room)

pub unique_batqemulo_sheet : (s : List ℕ) (rooms : List ℕ × List ℕ) (c c' : CAnswer) (after after' : List ℕ × List ℕ)
    → InC (λ a. TextSheet s rooms a after) c → InC (λ a. TextSheet s rooms a after') c' → (c ≡ c') × (after ≡ after')
unique_batqemulo_sheet s rooms = in_c_unique (TextSheet s rooms) (unique_text_sheet s rooms)

pub unique_batqemulo_sheet_update : (s : List ℕ) (rooms : List ℕ × List ℕ) (c c' : CAnswer) (after after' : List ℕ × List ℕ)
    → InC (λ a. TextSheetUpdate s rooms a after) c → InC (λ a. TextSheetUpdate s rooms a after') c' → (c ≡ c') × (after ≡ after')
unique_batqemulo_sheet_update s rooms = in_c_unique (TextSheetUpdate s rooms) (unique_text_sheet_update s rooms)

-- the calls that lend no room
one_answer : (P : Answer → Type 0) → ((a a' : Answer) → P a → P a' → a ≡ a') → (c c' : CAnswer) → InC P c → InC P c' → c ≡ c'
one_answer P one c c' (a, p, e) (a', p', e') = e ∙ ap in_c (one a a' p p') ∙ sym e'

pub unique_batqemulo_pairs_exercise : (marks objectors targets : List ℕ) (place turns : ℕ) (c c' : CAnswer)
    → InC (PairsExercise marks objectors targets place turns) c → InC (PairsExercise marks objectors targets place turns) c'
    → c ≡ c'
unique_batqemulo_pairs_exercise marks objectors targets place turns =
    one_answer (PairsExercise marks objectors targets place turns) (unique_pairs_exercise marks objectors targets place turns)

pub unique_batqemulo_text_exercise : (s : List ℕ) (number turns : ℕ) (c c' : CAnswer) → InC (TextExercise s number turns) c
    → InC (TextExercise s number turns) c' → c ≡ c'
unique_batqemulo_text_exercise s number turns = one_answer (TextExercise s number turns) (unique_text_exercise s number turns)

pub unique_batqemulo_mend : (s : List ℕ) (lent : Lent) (c c' : CAnswer) (after after' : Lent) → InC (λ a. TextMend s lent a after)
    c
    → InC (λ a. TextMend s lent a after') c' → (c ≡ c') × (after ≡ after')
unique_batqemulo_mend s lent = in_c_unique (TextMend s lent) (unique_text_mend s lent)

-- the calls on one number
pub unique_batqemulo_number : (written : List ℕ) (c c' : CAnswer) → InC (NumberCode written) c → InC (NumberCode written) c'
    → c ≡ c'
unique_batqemulo_number written = one_answer (NumberCode written) (unique_number_code written)

pub unique_batqemulo_number_text : (number : ℕ) (room : List ℕ) (c c' : CAnswer) (after after' : List ℕ)
    → InC (λ a. NumberText number room a after) c → InC (λ a. NumberText number room a after') c' → (c ≡ c') × (after ≡ after')
unique_batqemulo_number_text number room = in_c_unique (NumberText number room) (unique_number_text number room)

-- the calls between the two forms
pub unique_batqemulo_catalogue : (s room : List ℕ) (c c' : CAnswer) (after after' : List ℕ)
    → InC (λ a. TextCatalogue s room a after) c → InC (λ a. TextCatalogue s room a after') c' → (c ≡ c') × (after ≡ after')
unique_batqemulo_catalogue s room = in_c_unique (TextCatalogue s room) (unique_text_catalogue s room)

pub unique_batqemulo_uncatalogue : (catalogue room : List ℕ) (c c' : CAnswer) (after after' : List ℕ)
    → InC (λ a. CatalogueText catalogue room a after) c → InC (λ a. CatalogueText catalogue room a after') c'
    → (c ≡ c') × (after ≡ after')
unique_batqemulo_uncatalogue catalogue room = in_c_unique (CatalogueText catalogue room) (unique_catalogue_text catalogue room)
