-- `solve_register`: what the rooms begin with, once a text is read and labelled, is in order and ready for what is asked of it.
use native.Mathlib.Omega.{arith}
use Rattle.register_read.proofs.Lent.{rooms_handed}
use Rattle.register_solve.proofs.SolvedRooms.{rooms_ready}
use Rattle.register_solve.proofs.solve_register.Goals as goal

pub invariant_of-pairs : goal.invariant_of-pairs
invariant_of-pairs c =
    let solved = rw c.in_ok-n.was at c.solve_text.ensures in
    record { handed = rooms_handed _ solved.1.valid _ _ _ _ _ _ solved.2 }

pub returns : goal.returns
returns c =
    let solved = rw c.in_ok-n.was at c.solve_text.ensures in
    (solved.0, solved.1, rooms_ready _ _ _ _ _ _ _ _ _ solved (omega arith) (omega arith))
