-- `falls_within` and `stands_within` ask each other with one turn less. Each walks the chain of its statement; the
-- invariant of the walk is what every objector passed was found to be, beside tables that are right.
use lib.ListN.{length}
use Rattle.game.specs.Book.{book_of}
use Rattle.pair_chain.specs.Linked.{Walk}
use Rattle.exercise_within.specs.Known.{Known}
use Rattle.exercise_within.proofs.Entries.{Weak, Beaten}
use Rattle.exercise_within.proofs.+falls_within_stands_within.Given as goal

abbrev pub decreases-falls_within : goal.decreases-falls_within
decreases-falls_within l = l.turns

abbrev pub decreases-stands_within : goal.decreases-stands_within
decreases-stands_within l = l.turns

abbrev pub invariant-falls_within-loop-c : goal.invariant-falls_within-loop-c
invariant-falls_within-loop-c l =
    Walk l.pairs.targets.now (length l.pairs.targets.now) l.x
    (Weak l.pairs.marks.now l.pairs.objectors.now l.pairs.targets.now l.turns) l.c
    × Known (book_of l.pairs.marks.now l.pairs.objectors.now l.pairs.targets.now) l.falls l.stands

abbrev pub decreases-falls_within-loop-c : goal.decreases-falls_within-loop-c
decreases-falls_within-loop-c l = l.c

abbrev pub invariant-stands_within-loop-c : goal.invariant-stands_within-loop-c
invariant-stands_within-loop-c l =
    Walk l.pairs.targets.now (length l.pairs.targets.now) l.x
    (Beaten l.pairs.marks.now l.pairs.objectors.now l.pairs.targets.now l.turns) l.c
    × Known (book_of l.pairs.marks.now l.pairs.objectors.now l.pairs.targets.now) l.falls l.stands

abbrev pub decreases-stands_within-loop-c : goal.decreases-stands_within-loop-c
decreases-stands_within-loop-c l = l.c
