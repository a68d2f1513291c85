-- `register_size` is the size of both parts. The sum stays small, whatever the marks are.
use mathlib.Core.List.{[]}
use native.Mathlib.Omega.{arith}
use Rattle.register_write.proofs.Copied.{sizes}
use Rattle.register_write.proofs.register_size.Goals as goal

pub overflow_add-result : goal.overflow_add-result
overflow_add-result c = grind (arith, sizes, c.statements_size.ensures [])
