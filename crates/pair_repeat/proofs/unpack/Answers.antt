-- `unpack` parts each word. Once all are parted, the rooms give back the lists of objectors and targets.
use native.Mathlib.Omega.{arith}
use Rattle.pair_words.specs.Words.{objectors_in, targets_in}
use Rattle.pair_words.proofs.Views.{objectors_length, targets_length}
use Rattle.pair_repeat.proofs.Unpacked.{given_back}
use Rattle.pair_repeat.proofs.unpack.Goals as goal

pub returns : goal.returns
returns c = (
  given_back c.loop-e.pairs (objectors_in c.args.pairs.now) c.args.m (omega arith)
      (omega (arith, objectors_length c.args.pairs.now)) (λ i h. c.loop-e.invariant.objectors i (omega arith)),
  given_back c.loop-e.links (targets_in c.args.pairs.now) c.args.m (omega arith)
      (omega (arith, targets_length c.args.pairs.now)) (λ i h. c.loop-e.invariant.targets i (omega arith)),
)
