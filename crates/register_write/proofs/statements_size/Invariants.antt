-- `statements_size` adds up the lines. The invariant: the total is the size of the lines passed, whatever the marks are.
use mathlib.Core.List.{List}
use mathlib.Core.Path.{◌≡◌}
use Prim.Native.Nat.{ℕ}
use lib.ListN.{length}
use Rattle.register.specs.Texts.{rows_to}
use Rattle.register_write.specs.Copied.{statement_text}
use Rattle.register_write.proofs.statements_size.Given as goal

abbrev pub invariant-loop-number : goal.invariant-loop-number
invariant-loop-number l = (marks : List ℕ) → l.total ≡ length (rows_to l.number-index (statement_text l.numbers marks))
