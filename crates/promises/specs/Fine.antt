-- When a call has nothing amiss, for each call: the input is accepted, the lent room is long enough for the answer, the asked
-- statement is there and the turns are few. `Answers` asks that an answer is given exactly then.
use Rattle.std.specs.Prelude.{List, ℕ, ◌≤◌, ◌<◌, length}
use Rattle.game.specs.Book.{book_of}
use Rattle.game.specs.Argument.{Argument}
use Rattle.lists.specs.Refuses.{Lists}
use Rattle.register.specs.Register.{Register, Places, Issued, book, written}
use Rattle.register.specs.Reads.{Accepts}
use Rattle.register.specs.Number.{IsNumber, number_bytes}
use Rattle.listing.specs.Listing.{IsListing}
use Rattle.reason.specs.Reasons.{IsReason}
use Rattle.sheet.specs.Sheet.{bytes_for, codes}
use Rattle.mend.specs.TextLines.{TextLine}
use Rattle.mend.specs.Mended.{mended, fates}
use Rattle.mend.specs.Report.{report_of}
use Rattle.promises.specs.SheetCalls.{OldSheet}
use Rattle.promises.specs.MendCalls.{Lent, Lined}
use Rattle.promises.specs.NumberCalls.{Names}
use Rattle.catalogue.specs.Regrouped.{catalogued}
use Rattle.catalogue.specs.CatalogueReads.{CatalogueAccepts}

module _ (marks objectors targets : List ℕ) where
  -- labels, and lengths
  abbrev pub PairsStatementsFine : (room : List ℕ) → Type 0
  PairsStatementsFine room = Lists marks objectors targets × (length marks ≤ length room)

  abbrev pub PairsKindsFine : (rooms : List ℕ × List ℕ) → Type 0
  PairsKindsFine rooms =
      Lists marks objectors targets × (length objectors ≤ length rooms.0) × (length objectors ≤ length rooms.1)

  abbrev pub PairsArgumentFine : (place : ℕ) (room : List ℕ) → Type 0
  PairsArgumentFine place room =
      Lists marks objectors targets × (place < length marks) × ((l : List ℕ) → Argument (book_of marks objectors targets) place l
      → length l ≤ length room)

  abbrev pub PairsExerciseFine : (place turns : ℕ) → Type 0
  PairsExerciseFine place turns = Lists marks objectors targets × (place < length marks) × (turns ≤ 6)

module _ (text : List ℕ) where
  -- labels, and lengths
  abbrev pub TextStatementsFine : (room : List ℕ) → Type 0
  TextStatementsFine room = (R : Register) × Accepts text R × (length R.statements ≤ length room)

  abbrev pub TextListingFine : (room : List ℕ) → Type 0
  TextListingFine room = (R : Register) × Accepts text R × ((l : List ℕ) → IsListing R l → length l ≤ length room)

  abbrev pub TextCatalogueFine : (room : List ℕ) → Type 0
  TextCatalogueFine room = (R : Register) × Accepts text R × (length (catalogued R) ≤ length room)

  -- what is asked about a statement, where `Is R x` says what the answer about the place x is
  abbrev pub TextAskedFine : (Is : Register → ℕ → List ℕ → Type 0) (number : ℕ) (room : List ℕ) → Type 0
  TextAskedFine Is number room =
      (R : Register) × Accepts text R × Issued R number × ((x : ℕ) → Places R number x → (l : List ℕ) → Is R x l
      → length l ≤ length room)

  abbrev pub TextArgumentFine : (number : ℕ) (room : List ℕ) → Type 0
  TextArgumentFine = TextAskedFine (λ R x l. Argument (book R) x l)

  abbrev pub TextReasonFine : (number : ℕ) (room : List ℕ) → Type 0
  TextReasonFine = TextAskedFine IsReason

  abbrev pub TextExerciseFine : (number turns : ℕ) → Type 0
  TextExerciseFine number turns = (R : Register) × Accepts text R × Issued R number × (turns ≤ 6)

  abbrev pub TextSheetFine : (rooms : List ℕ × List ℕ) → Type 0
  TextSheetFine rooms =
      (R : Register) × Accepts text R × (bytes_for (book R).size ≤ length rooms.0) × (codes ≤ length rooms.1)

  abbrev pub TextSheetUpdateFine : (rooms : List ℕ × List ℕ) → Type 0
  TextSheetUpdateFine rooms = (R : Register) × Accepts text R × OldSheet (book R) rooms × (codes ≤ length rooms.1)

  -- a text that is to be mended need not be a register
  abbrev pub TextMendFine : (lent : Lent) → Type 0
  TextMendFine lent =
      (ls : List TextLine) × Lined text ls × (length (written (mended ls)) ≤ length lent.0)
      × (length (report_of (fates ls)) ≤ length lent.1)

-- the calls on one number
abbrev pub NumberCodeFine : (written : List ℕ) → Type 0
NumberCodeFine written = (number : ℕ) × Names written number

abbrev pub NumberTextFine : (number : ℕ) (room : List ℕ) → Type 0
NumberTextFine number room = IsNumber number × (length (number_bytes number) ≤ length room)

-- the call on a catalogue
abbrev pub CatalogueTextFine : (catalogue room : List ℕ) → Type 0
CatalogueTextFine catalogue room =
    (R : Register) × CatalogueAccepts catalogue R × (length (written R) ≤ length room)
