-- `falls_within` and `stands_within` ask each other with one turn less. What each tells, at each return.
use mathlib.Core.Path.{refl}
use native.Mathlib.Omega.{arith}
use Rattle.exercise_within.proofs.Entries.{falls_none}
use Rattle.exercise_within.proofs.WithinSteps.{falls_found, falls_ends, stands_too_late, stands_lost, stands_ends}
use Rattle.exercise_within.proofs.+falls_within_stands_within.Goals as goal

pub falls_within-returns-then-turns-eq0 : goal.falls_within-returns-then-turns-eq0
falls_within-returns-then-turns-eq0 t c = (falls_none _ _ _ _ _ c.if-turns-eq0.true, c.requires.known)

pub falls_within-returns-then-standing : goal.falls_within-returns-then-standing
falls_within-returns-then-standing t c =
    falls_found c.args.pairs.now.handed _ _ c.requires.walkable.1 c.requires.walkable.2 c.stands_within-standing.ensures.1
    c.if-turns-eq0.false _ c.loop-c.invariant.0 c.loop-c-test.true _ _ refl c.stands_within-standing.ensures.0 c.if-standing.true

pub falls_within-returns : goal.falls_within-returns
falls_within-returns t c =
    falls_ends c.args.pairs.now.handed _ _ c.requires.walkable.1 c.requires.walkable.2 c.loop-c.invariant.1
    c.if-turns-eq0.false _ c.loop-c.invariant.0 c.loop-c-test.false

pub stands_within-returns-then-turns-eq0 : goal.stands_within-returns-then-turns-eq0
stands_within-returns-then-turns-eq0 t c =
    stands_too_late c.args.pairs.now.handed _ _ c.requires.walkable.1 c.requires.walkable.2 c.loop-c.invariant.1 _
    c.loop-c.invariant.0 c.loop-c-test.true c.if-turns-eq0.true

pub stands_within-returns-then-not-fallen : goal.stands_within-returns-then-not-fallen
stands_within-returns-then-not-fallen t c =
    stands_lost c.args.pairs.now.handed _ _ c.requires.walkable.1 c.requires.walkable.2 c.falls_within-fallen.ensures.1 _
    c.loop-c.invariant.0 c.loop-c-test.true c.if-turns-eq0.false _ _ refl c.falls_within-fallen.ensures.0 c.if-not-fallen.true

pub stands_within-returns : goal.stands_within-returns
stands_within-returns t c =
    stands_ends c.args.pairs.now.handed _ _ c.requires.walkable.1 c.requires.walkable.2 c.loop-c.invariant.1 _
    c.loop-c.invariant.0 (omega arith) c.loop-c-test.false
