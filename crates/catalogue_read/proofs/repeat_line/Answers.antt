-- `repeat_line` goes over the objectors. The invariant: none passed is named twice on a line, and `last` has the last lines.
use mathlib.Core.Path.{refl}
use native.Mathlib.Omega.{arith}
use Rattle.catalogue_read.proofs.Passes.{one_named, repeated}
use Rattle.catalogue_read.proofs.repeat_line.Goals as goal

pub returns-then-last-y : goal.returns-then-last-y
returns-then-last-y c = repeated _ _ _ _ _ _ c.loop-k.invariant _ (omega arith) refl refl c.if-last-y.true

pub loop-k-preserved : goal.loop-k-preserved
loop-k-preserved c = one_named _ _ _ _ _ _ c.loop-k.invariant _ (omega arith) refl refl c.requires.in_line
    c.if-last-y.false (omega (arith, c.requires.places c.loop-k.k (omega arith)))

pub returns : goal.returns
returns c = λ j h. c.loop-k.invariant.none j (omega arith)
