-- What the programs print. `list`: the listing of a text; `reason`: the reason of the statement that the argument names; `mend`:
-- the mended register, with a report beside it; `catalogue` and `uncatalogue`: the other form. Each prints the one line of the
-- refusal for an input that is refused. None of them ever prints refusal 10: their rooms are long enough for any answer.
use Rattle.std.specs.Prelude.{List, ◌⊎◌, ◌≡◌, ℕ, ◌≤◌, ◌<◌, length}
use Rattle.answer.specs.Refusals.{refusal_number, refusal_place}
use Rattle.answer.specs.declared.Refusal.{Refusal}
use Rattle.register.specs.Register.{Register, Places, Issued, written}
use Rattle.listing.specs.Rows.{refused_row}
use Rattle.listing.specs.Listing.{IsListing}
use Rattle.register.specs.Reads.{Accepts, Refuses}
use Rattle.answer.specs.declared.Refusal.TheVariants.{Asked, Text}
use Rattle.register.specs.declared.TextFault.{TextFault}
use Rattle.register.specs.declared.TextFault.TheVariants.{TooLong}
use Rattle.reason.specs.Reasons.{IsReason}
use Rattle.mend.specs.TextLines.{TextLine, LinesOf}
use Rattle.mend.specs.Mended.{mended, fates}
use Rattle.mend.specs.Report.{report_of}
use Rattle.catalogue.specs.Regrouped.{catalogued}
use Rattle.catalogue.specs.CatalogueReads.{CatalogueAccepts, CatalogueRefuses}
use Rattle.promises.specs.NumberCalls.{Names}

-- the line of a refusal; and that of the fault of a text that is refused, so with a number from 1 to 9
abbrev pub PrintsRefusal : Refusal → List ℕ → Type 0
PrintsRefusal r printed = printed ≡ refused_row (refusal_number r) (refusal_place r)

abbrev pub PrintsFault : (text printed : List ℕ) → Type 0
PrintsFault text printed = (fault : TextFault) × Refuses text fault × PrintsRefusal (Text fault) printed

-- `list`: the listing, or the line of the refusal
abbrev pub Prints : (text printed : List ℕ) → Type 0
Prints text printed = ((R : Register) × Accepts text R × IsListing R printed) ⊎ PrintsFault text printed

-- `catalogue`: the catalogue, or the line of the refusal
abbrev pub PrintsCatalogue : (text printed : List ℕ) → Type 0
PrintsCatalogue text printed = ((R : Register) × Accepts text R × (printed ≡ catalogued R)) ⊎ PrintsFault text printed

-- `uncatalogue`: the old form, or the line of the refusal, which is one of a catalogue
abbrev pub PrintsOldForm : (catalogue printed : List ℕ) → Type 0
PrintsOldForm catalogue printed =
    ((R : Register) × CatalogueAccepts catalogue R × (printed ≡ written R))
    ⊎ ((fault : TextFault) × CatalogueRefuses catalogue fault × PrintsRefusal (Text fault) printed)

-- the reason of the statement of the register that the argument names, by its number as it is written; or it names none
abbrev pub ReasonNamed : Register → (argument printed : List ℕ) → Type 0
ReasonNamed R argument printed = (number x : ℕ) × Names argument number × Places R number x × IsReason R x printed

abbrev pub NoneNamed : Register → (argument : List ℕ) → Type 0
NoneNamed R argument = (number : ℕ) → Names argument number → ¬ Issued R number

-- `reason`: of an accepted text only 14 is printed, where the argument names no statement of it
abbrev pub PrintsReason : (text argument printed : List ℕ) → Type 0
PrintsReason text argument printed =
    PrintsFault text printed
    ⊎ ((R : Register) × Accepts text R × (ReasonNamed R argument printed ⊎ (NoneNamed R argument × PrintsRefusal Asked printed)))

-- What comes of a text that is to be mended. No report is not an empty one: then there is no file for it.
pub data Outcome : Type 0 where
  no_report : (printed : List ℕ) → Outcome
  with_report : (printed reported : List ℕ) → Outcome

-- `mend`: a text over 65,535 bytes is refused: its line is printed, and nothing reported. Of the lines of any other, the mended
-- register is printed, and what was dropped or moved is reported. So 1 is the only refusal printed.
abbrev pub Mends : (text : List ℕ) → Outcome → Type 0
Mends text (no_report printed) = (65535 < length text) × PrintsRefusal (Text TooLong) printed
Mends text (with_report printed reported) =
    (length text ≤ 65535) × ((ls : List TextLine) × LinesOf text ls × (printed ≡ written (mended ls))
    × (reported ≡ report_of (fates ls)))
