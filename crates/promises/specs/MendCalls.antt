-- The promise of the call that mends a text: it writes the mended register and the report of what was dropped and moved. What
-- becomes of each line, and how it is reported, `mend` says.
use Rattle.std.specs.Prelude.{List, ◌⊎◌, ◌≡◌, ℕ, ◌≤◌, ◌<◌, length}
use Rattle.register.specs.Register.{written}
use Rattle.answer.specs.declared.Refusal.{Refusal}
use Rattle.answer.specs.declared.Refusal.TheVariants.{Text}
use Rattle.register.specs.declared.TextFault.TheVariants.{TooLong}
use Rattle.answer.specs.Answer.{Written, Short, OnInput}
use Rattle.answer.specs.Answer.{Answer}
use Rattle.mend.specs.TextLines.{TextLine, LinesOf}
use Rattle.mend.specs.Mended.{mended, fates}
use Rattle.mend.specs.Report.{report_of}

-- What is lent: a room for the mended text, a room for the report, and a number, how many bytes the report has.
abbrev pub Lent : Type 0
Lent = List ℕ × List ℕ × ℕ

-- The rooms begin with the mended text, n bytes, and with the report; beyond that they are as found.
abbrev pub MendedIn : List TextLine → Lent → ℕ → Lent → Type 0
MendedIn ls lent n after =
    Written (written (mended ls)) lent.0 n after.0 × Written (report_of (fates ls)) lent.1 after.2 after.1

-- either room is shorter than that
abbrev pub MendedShort : List TextLine → Lent → Type 0
MendedShort ls lent = (length lent.0 < length (written (mended ls))) ⊎ (length lent.1 < length (report_of (fates ls)))

-- A text that is to be mended need not be a register: it is accepted as the lines that it has. "Refusals: only 1, then 10 if
-- either room is short."
abbrev pub Lined : (text : List ℕ) → List TextLine → Type 0
Lined text ls = (length text ≤ 65535) × LinesOf text ls

abbrev pub LinesRefused : (text : List ℕ) → Refusal → Type 0
LinesRefused text r = (65535 < length text) × (r ≡ Text TooLong)

abbrev pub TextMend : (text : List ℕ) → Lent → Answer → Lent → Type 0
TextMend text lent = OnInput (Lined text) (LinesRefused text) (λ ls. Short (MendedShort ls lent)) (λ ls. MendedIn ls lent) lent
