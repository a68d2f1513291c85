-- `choose` asks of each objection whether it is in the reason. The invariant: those passed have their ticks, the others none.
use mathlib.Core.Path.{refl}
use Rattle.pair_chain.proofs.ChainSteps.{all_zero}
use Rattle.reason_find.proofs.choose.Goals as goal

pub reach-requires-clause-room_len : goal.reach-requires-clause-room_len
reach-requires-clause-room_len c = (refl, λ x. all_zero 1024 x)
