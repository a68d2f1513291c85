-- Not for callers of the product: what is promised of lists that are in order, before they are known to be handed or a text's.
use Rattle.std.specs.Prelude.{List, ℕ, ◌<◌, length}
use Rattle.lists.specs.declared.in_order.Pairs.{Pairs}
use Rattle.lists.specs.PairsBook.{pairs_book}
use Rattle.game.specs.Account.{Account}
use Rattle.answer.specs.Answer.{Promised, Short}
use Rattle.answer.specs.Answer.{Answer}
use Rattle.promises.specs.LabelCalls.{StatementsIn}

-- a number of what is told of each statement, or too little room for all of them
abbrev pub StatementsWritten : (Account → ℕ) → Pairs → List ℕ → Answer → List ℕ → Type 0
StatementsWritten number p room =
    Promised (Short (length room < length p.marks.now))
    (StatementsIn (pairs_book p) number (length p.marks.now) room) room
