-- `write_labels` has the solver write into the room, where there is room for all of it.
use mathlib.Core.Path.{refl}
use Rattle.call_labels_lists.proofs.ListsSolved.{labels_begin}
use Rattle.call_labels_lists.proofs.write_labels.Goals as goal

pub returns : goal.returns
returns c = (refl, labels_begin _ _ _ _ _ _ _ c.solve.ensures c.if-labels-n.false c.solve.auto.labels)
