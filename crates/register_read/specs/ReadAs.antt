-- What reading a text answers: the register that it makes, as lists, or why it is refused.
use Rattle.std.specs.Prelude.{Result, Ok, Err, List, ℕ}
use Rattle.lists.specs.declared.in_order.NumberedPairs.{NumberedPairs}
use Rattle.register.specs.declared.TextFault.{TextFault}
use Rattle.register.specs.Register.{Register}
use Rattle.register.specs.Reads.{Accepts, Refuses}
use Rattle.register_read.specs.ReadState.{Made}

-- the lists are the register's own
abbrev pub MadeAs : Register → NumberedPairs → Type 0
MadeAs R p = Made R p.numbers.now p.pairs.marks.now p.pairs.objectors.now p.pairs.targets.now

abbrev pub ReadAs : List ℕ → Result NumberedPairs TextFault → Type 0
ReadAs s (Ok p) = (R : Register) × Accepts s R × MadeAs R p
ReadAs s (Err r) = Refuses s r
