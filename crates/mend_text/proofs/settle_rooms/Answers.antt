-- `settle_rooms`: what the rooms begin with, once a text is settled, is in order.
use mathlib.Core.Path.{sym}
use native.Mathlib.Omega.{arith}
use lib.Seq.{length-take-le}
use Rattle.mend_text.proofs.Settled.{few_fates, settled_handed}
use Rattle.mend_text.proofs.settle_rooms.Goals as goal

pub invariant_of-pairs : goal.invariant_of-pairs
invariant_of-pairs c = record { handed = settled_handed _ c.requires.0 _ _ _ _ _ _ c.settle_text-statements.ensures }

pub slice_bounds-fates-end : goal.slice_bounds-fates-end
slice_bounds-fates-end c = sym (length-take-le _ _ (omega (
  arith,
  few_fates _ c.requires.0 _ _ _ _ _ _ c.settle_text-statements.ensures,
)))
