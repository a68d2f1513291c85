-- `pairs_line`: a line is no longer than the register, so that its length fits the answer.
use native.Mathlib.Omega.{arith}
use Rattle.call_argument.proofs.LineLent.{line_few}
use Rattle.std.proofs.Common.{rules}
use Rattle.call_argument.proofs.pairs_line.Goals as goal

pub overflow_cast-result : goal.overflow_cast-result
overflow_cast-result c =
    omega (arith, line_few _ _ _ _ _ _ _ c.argument-n.ensures (search rules) c.in_ok-pairs.pairs.handed.few_marks)
