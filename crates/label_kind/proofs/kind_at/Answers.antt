-- `kind_at` hands the labels of the two ends over to `kind_of`: the labels are the meaning's, so they are ends.
use Rattle.label_kind.proofs.Ends.{ends, kind_of_entry}
use mathlib.Core.Path.{refl}
use Rattle.label_kind.proofs.kind_at.Goals as goal

pub kind_of-requires : goal.kind_of-requires
kind_of-requires c = ends _ _ _ _ _ c.args.labelled.now.pairs.handed c.requires.0 _ _ _ c.requires.1 refl refl

pub returns : goal.returns
returns c = kind_of_entry _ _ _ _ _ c.args.labelled.now.pairs.handed c.requires.0 _ _ _ c.requires.1 refl refl _ c.kind_of.ensures
