-- `moves_lengths` promises what `pairs_lengths` does, with the two lists exchanged.
use Rattle.call_labels_lists.proofs.moves_lengths.Goals as goal

pub returns : goal.returns
returns c = c.pairs_lengths.ensures
