-- `renumber` tells each place by its number. The invariant: the entries passed are told, those to come are as they were.
use mathlib.Core.Path.{◌≡◌}
use lib.ListN.{get_or}
use Rattle.answer.specs.Answer.{Begins}
use Rattle.call_argument.proofs.renumber.Given as goal

abbrev pub invariant-loop-entry : goal.invariant-loop-entry
invariant-loop-entry l =
    Begins l.entry-index (λ k e. e ≡ get_or l.numbers (get_or l.initial.line k 0) 0) l.initial.line l.line
