-- `pair_at` walks two chains side by side. The invariant: what each of them has passed is not the objection.
use Rattle.pair_words.specs.Words.{objectors_in, targets_in}
use Rattle.pair_repeat.specs.Entered.{BothSearched}
use Rattle.pair_repeat.proofs.pair_at.Given as goal

abbrev pub invariant-loop-by : goal.invariant-loop-by
invariant-loop-by l = BothSearched (objectors_in l.pairs) (targets_in l.pairs) l.m l.y l.x l.by l.against

abbrev pub decreases-loop-by : goal.decreases-loop-by
decreases-loop-by l = l.by
