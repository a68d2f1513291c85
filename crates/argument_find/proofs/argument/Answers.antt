-- `argument` sizes the line by the length of x, and lends the chains and the room to `write`.
use native.Mathlib.Omega.{arith}
use Rattle.pair_chain.proofs.ChainSteps.{all_zero}
use Rattle.argument_find.proofs.ArgumentSteps.{lined_short, lined_written}
use Rattle.argument_find.proofs.argument.Goals as goal

pub returns-then-room-n : goal.returns-then-room-n
returns-then-room-n c =
    lined_short _ _ _ _ _ c.args.labelled.now.pairs.handed c.requires.0 _ _ c.requires.1 c.turns-after.ensures _ _
    c.from-n.ensures (omega arith)

pub chain-requires-clause-empty : goal.chain-requires-clause-empty
chain-requires-clause-empty c = λ x. all_zero 1024 x

pub returns : goal.returns
returns c =
    lined_written _ _ _ _ _ c.args.labelled.now.pairs.handed c.requires.0 _ _ c.requires.1 c.turns-after.ensures _ _ _
    c.from-n.ensures c.if-room-n.false c.write.ensures
