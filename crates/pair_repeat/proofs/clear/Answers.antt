-- `clear` puts where chains begin to none. The invariant: so it is of the statements passed.
use native.Mathlib.Omega.{arith}
use Rattle.pair_repeat.proofs.Entered.{none_more}
use Rattle.pair_repeat.proofs.clear.Goals as goal

pub loop-v-preserved : goal.loop-v-preserved
loop-v-preserved c =
    rw c.put_begins.ensures (none_more c.loop-v.links c.loop-v.v (omega arith) (omega arith) c.loop-v.invariant)
