-- `solve` lends `label_all` the beginning of each room.
use Rattle.std.proofs.Common.{rules}
use Rattle.label_solve.proofs.RoomParts.{solved_parts}
use Rattle.label_solve.proofs.solve.Goals as goal

pub returns : goal.returns
returns c = solved_parts _ _ _ _ _ _ _ (search rules) (search rules) c.label_all.ensures
