-- `decimal_size` counts the digits. The invariant: those counted and those of what is left are one more than all.
use mathlib.Core.Path.{◌≡◌}
use Prim.Native.Nat.{◌+◌, ◌≤◌}
use lib.ListN.{length}
use Rattle.register.specs.Texts.{decimal}
use Rattle.room_write.proofs.decimal_size.Given as goal

abbrev pub invariant-loop-left : goal.invariant-loop-left
invariant-loop-left l = (l.left ≤ l.number) × (l.digits + length (decimal l.left) ≡ length (decimal l.number) + 1)

abbrev pub decreases-loop-left : goal.decreases-loop-left
decreases-loop-left l = l.left
