-- What settling a text answers: the register that the text's lines are mended to, as lists, and the numbers of their fates.
use Rattle.std.specs.Prelude.{List, map, ◌≡◌, ℕ}
use Rattle.register_read.specs.ReadAs.{MadeAs}
use Rattle.mend.specs.TextLines.{TextLine, LinesOf}
use Rattle.mend.specs.Mended.{mended, fates}
use Rattle.mend_line.specs.SettledRooms.{told}
use Rattle.mend_text.specs.declared.mended_text.MendedText.{MendedText}

pub record MendedAs (s : List ℕ) (m : MendedText) : Type 0 where
  pub ls : List TextLine
  pub lines_of : LinesOf s ls
  pub made : MadeAs (mended ls) m.register
  pub fates_are : m.fates.now ≡ map told (fates ls)
