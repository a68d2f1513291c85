-- `settle_text` settles statements with an empty index, and then objections with that index.
use mathlib.Core.Path.{refl}
use Rattle.register_index.proofs.Index.{indexed_none}
use Rattle.mend_text.proofs.settle_text.Goals as goal

pub settle_statements-requires-clause-indexed : goal.settle_statements-requires-clause-indexed
settle_statements-requires-clause-indexed c = (refl, indexed_none _)
