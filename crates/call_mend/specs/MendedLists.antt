-- Not for callers of the product: the lists that a mended register makes, with the fates of the lines, and what is promised of
-- the same lines.
use Rattle.std.specs.Prelude.{List, map, ◌≡◌, ◌≤◌, length}
use Rattle.register.specs.Register.{written}
use Rattle.register_read.specs.ReadAs.{MadeAs}
use Rattle.answer.specs.Answer.{Promised, Short}
use Rattle.answer.specs.Answer.{Answer}
use Rattle.mend.specs.TextLines.{TextLine}
use Rattle.mend.specs.Mended.{mended, fates}
use Rattle.mend_line.specs.SettledRooms.{told}
use Rattle.mend_text.specs.declared.mended_text.MendedText.{MendedText}
use Rattle.promises.specs.MendCalls.{Lent, MendedShort, MendedIn}

-- Not for callers: the lists are those of the mended register, and the numbers those of the fates; and the promise of the same
-- lines.
pub record MendedLists (ls : List TextLine) (m : MendedText) : Type 0 where
  pub made : MadeAs (mended ls) m.register
  pub fates_are : m.fates.now ≡ map told (fates ls)
  pub few : length m.fates.now ≤ 65535
  pub short : length (written (mended ls)) ≤ 65535

abbrev pub MendWritten : List TextLine → Lent → Answer → Lent → Type 0
MendWritten ls lent a after = Promised (Short (MendedShort ls lent)) (MendedIn ls lent) lent a after
