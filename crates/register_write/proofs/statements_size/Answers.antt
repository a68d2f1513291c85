-- `statements_size` adds up the lines. The sum stays small, whatever the marks are.
use mathlib.Core.List.{[]}
use native.Mathlib.Omega.{arith}
use Rattle.register_write.proofs.Copied.{sizes}
use Rattle.register_write.proofs.statements_size.Goals as goal

pub overflow_add-total-in-loop-number : goal.overflow_add-total-in-loop-number
overflow_add-total-in-loop-number c = grind (arith, sizes, c.loop-number.invariant [])
