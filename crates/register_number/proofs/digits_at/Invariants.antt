-- `digits_at` goes over the digits. The invariant: those passed are the digits of the value, and at most so many.
use Rattle.register_number.proofs.NumberSteps.{Inv}
use Rattle.register_number.proofs.digits_at.Given as goal

abbrev pub invariant-loop-i : goal.invariant-loop-i
invariant-loop-i l = Inv l.s l.at l.most l.value l.i
