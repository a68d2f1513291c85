-- `objections_size` adds up the lines. The invariant: the total is the size of the lines passed.
use mathlib.Core.Path.{◌≡◌}
use lib.ListN.{length}
use Rattle.register.specs.Texts.{rows_to}
use Rattle.register_write.specs.Copied.{objection_text}
use Rattle.register_write.proofs.objections_size.Given as goal

abbrev pub invariant-loop-y : goal.invariant-loop-y
invariant-loop-y l = l.total ≡ length (rows_to (length l.yielded) (objection_text l.numbers l.objectors l.targets))
