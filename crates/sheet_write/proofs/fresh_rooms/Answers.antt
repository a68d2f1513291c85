-- `fresh_rooms` lends the part of the room that the sheet fills.
use native.Mathlib.Omega.{arith}
use Rattle.label_solve.proofs.RoomParts.{part_length}
use Rattle.sheet_write.proofs.SheetGiven.{codable, sheet_in_lem}
use Rattle.sheet_write.proofs.fresh_rooms.Goals as goal

pub fresh-requires : goal.fresh-requires
fresh-requires c = (
  codable c.requires.1.0 c.args.labels.now c.requires.1.1 c.requires.0 c.args.totals.now (omega arith),
  part_length _ _ (omega arith),
)

pub returns : goal.returns
returns c = λ B of. sheet_in_lem B c.args.labels.now of c.args.sheet.now c.args.totals.now c.fresh.new.sheet
    c.fresh.new.totals c.fresh.ensures (omega arith)
