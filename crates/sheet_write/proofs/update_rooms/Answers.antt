-- `update_rooms` updates what was found to be sound.
use mathlib.Core.Bool.{not}
use mathlib.Core.Path.{ap}
use native.Mathlib.Omega.{arith}
use Rattle.game.proofs.Find.{granted}
use Rattle.sheet_write.proofs.SheetGiven.{codable, updated}
use Rattle.sheet_write.proofs.update_rooms.Goals as goal

pub update-requires : goal.update-requires
update-requires c = let sound = granted c.is_sound.result (ap not c.if-not-is_sound.false) c.is_sound.ensures in (
  codable c.requires.1.0 c.args.labels.now c.requires.1.1 c.requires.0 c.args.totals.now
      (omega (arith, c.if-totals-lt3.false)),
  sound.size,
  sound.spare,
)

pub returns : goal.returns
returns c = let sound = granted c.is_sound.result (ap not c.if-not-is_sound.false) c.is_sound.ensures in
    λ B of. updated B c.args.labels.now of c.args.sheet.now c.args.totals.now c.update.new.sheet
    c.update.new.totals sound c.update.ensures
