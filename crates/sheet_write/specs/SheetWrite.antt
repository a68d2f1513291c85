-- Not for callers of the product: what is promised of two lent rooms, for a label sheet and its totals, of one book.
use Rattle.std.specs.Prelude.{List, ℕ}
use Rattle.game.specs.Book.{Book}
use Rattle.answer.specs.Answer.{Promised, Short}
use Rattle.answer.specs.Answer.{Answer}
use Rattle.promises.specs.SheetCalls.{SheetShort, SheetIn, UpdateRefused, UpdatedIn}

-- Not for callers: the promises of one book.
abbrev pub SheetWritten : Book → List ℕ × List ℕ → Answer → List ℕ × List ℕ → Type 0
SheetWritten B rooms a after = Promised (Short (SheetShort B rooms)) (SheetIn B rooms) rooms a after

abbrev pub SheetUpdated : Book → List ℕ × List ℕ → Answer → List ℕ × List ℕ → Type 0
SheetUpdated B rooms a after = Promised (UpdateRefused B rooms) (UpdatedIn B rooms) rooms a after
