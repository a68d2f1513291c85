-- `repeated` lends two rooms of zeros, in which no chain has begun.
use Rattle.pair_repeat.proofs.Entered.{chains_zeros}
use Rattle.lists_check.proofs.repeated.Goals as goal

pub first_repeat-requires : goal.first_repeat-requires
first_repeat-requires c = chains_zeros _ c.args.pairs.now.handed.few_marks
