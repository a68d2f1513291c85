-- `read` settles rows 1 and 2, and leaves the lines to `read_cards`, with an empty index.
use mathlib.Core.Path.{refl}
use Rattle.register_index.proofs.Index.{indexed_none}
use Rattle.catalogue_read.proofs.read.Goals as goal

pub read_cards-requires-clause-indexed : goal.read_cards-requires-clause-indexed
read_cards-requires-clause-indexed c = (refl, indexed_none _)
