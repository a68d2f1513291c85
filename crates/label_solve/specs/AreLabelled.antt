-- What is asked of lists that are lent with their labels as one value.
use Rattle.lists.specs.PairsBook.{pairs_book}
use Rattle.label_solve.specs.Labelled.{Labelled}
use Rattle.label_solve.specs.declared.labelled.LabelledPairs.{LabelledPairs}

-- the labels and lengths are those of the register that the lists hold
abbrev pub AreLabelled : LabelledPairs → Type 0
AreLabelled l = Labelled (pairs_book l.pairs) l.labels.now l.lengths.now
