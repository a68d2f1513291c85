-- `rows_size` adds up the rows. The invariant: the total is the size of the rows passed.
use mathlib.Core.Path.{◌≡◌}
use lib.ListN.{length}
use Rattle.register.specs.Texts.{rows_to}
use Rattle.call_reason.specs.ReasonRows.{chosen_at}
use Rattle.call_reason.proofs.rows_size.Given as goal

abbrev pub invariant-loop-k : goal.invariant-loop-k
invariant-loop-k l = l.total ≡ length (rows_to l.k (chosen_at l.register l.inside))
