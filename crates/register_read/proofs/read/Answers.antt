-- `read` settles rows 1 and 2, and leaves the lines to `read_lines`, with an empty index.
use mathlib.Core.Path.{refl}
use Rattle.register_index.proofs.Index.{indexed_none}
use Rattle.register_read.proofs.read.Goals as goal

pub read_lines-requires-clause-indexed : goal.read_lines-requires-clause-indexed
read_lines-requires-clause-indexed c = (refl, indexed_none _)
