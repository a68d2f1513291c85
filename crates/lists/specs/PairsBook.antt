-- For the workings, not for callers: what is said of lists that are in order and lent as one value.
use Rattle.game.specs.Book.{Book, book_of}
use Rattle.lists.specs.declared.in_order.Pairs.{Pairs}

-- the register that they hold
abbrev pub pairs_book : Pairs → Book
pairs_book p = book_of p.marks.now p.objectors.now p.targets.now
