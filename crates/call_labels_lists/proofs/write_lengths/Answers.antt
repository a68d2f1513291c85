-- `write_lengths` has the solver write into the room, where there is room for all of it.
use mathlib.Core.Path.{refl}
use Rattle.call_labels_lists.proofs.ListsSolved.{lengths_begin}
use Rattle.call_labels_lists.proofs.write_lengths.Goals as goal

pub returns : goal.returns
returns c = (refl, lengths_begin _ _ _ _ _ _ _ c.solve.ensures c.if-lengths-n.false c.solve.auto.lengths)
