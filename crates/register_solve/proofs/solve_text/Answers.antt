-- `solve_text` hands the rooms that reading left on to the solver.
use Rattle.register_solve.proofs.SolvedRooms.{rooms_handed_lem, rooms_solved}
use Rattle.register_solve.proofs.solve_text.Goals as goal

pub solve_rooms-requires-clause-handed : goal.solve_rooms-requires-clause-handed
solve_rooms-requires-clause-handed c = rooms_handed_lem c.args.text.now c.read.new.numbers c.read.new.marks c.read.new.objectors
    c.read.new.targets c.in_ok-n.n c.in_ok-n.m (rw c.in_ok-n.was at c.read.ensures)

pub returns : goal.returns
returns c = rooms_solved c.args.text.now c.read.new.numbers c.read.new.marks c.read.new.objectors
    c.read.new.targets c.in_ok-n.n c.in_ok-n.m (rw c.in_ok-n.was at c.read.ensures) _ _ _ _
    c.solve_rooms.ensures
