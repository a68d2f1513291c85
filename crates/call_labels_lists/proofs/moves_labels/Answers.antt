-- `moves_labels` promises what `pairs_labels` does, with the two lists exchanged.
use Rattle.call_labels_lists.proofs.moves_labels.Goals as goal

pub returns : goal.returns
returns c = c.pairs_labels.ensures
