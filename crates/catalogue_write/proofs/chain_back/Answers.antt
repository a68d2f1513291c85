-- `chain_back` chains the targets turned round.
use Prim.Native.Nat.{◌≤◌}
use native.Mathlib.Omega.{arith}
use lib.ListN.{length}
use Rattle.catalogue_write.proofs.Turning.{part_low, chained_back}
use Rattle.catalogue_write.proofs.chain_back.Goals as goal

pub chain-requires-clause-within : goal.chain-requires-clause-within
chain-requires-clause-within c =
    let room : length c.args.targets.now ≤ length c.turn.new.turned = omega (arith, c.turn.auto.turned, c.requires.room.0) in
    part_low c.args.targets.now c.turn.new.turned c.turn.ensures room (length c.args.head.now) c.requires.within

pub returns : goal.returns
returns c =
    let room : length c.args.targets.now ≤ length c.turn.new.turned = omega (arith, c.turn.auto.turned, c.requires.room.0) in
    chained_back c.args.targets.now c.turn.new.turned c.turn.ensures room
    (omega (arith, c.chain.auto.next, c.requires.room.1)) c.chain.ensures
