-- `is_sound`: each question is asked where the answer to those before is yes.
use mathlib.Core.Path.{ap}
use mathlib.Core.Bool.{not}
use borrow.Author.Tests.{ne_eqb}
use Rattle.game.proofs.Find.{granted}
use Rattle.sheet_code.proofs.SheetLaws.{three_unsound, sound_by_totals}
use Rattle.sheet_check.proofs.is_sound.Goals as goal

pub returns-then-counts-eq0 : goal.returns-then-counts-eq0
returns-then-counts-eq0 c = sound_by_totals c.args.n c.args.sheet.now c.args.totals.now c.tally-counts.result
    c.tally-counts.ensures c.if-sheet-n.false
    (granted c.spare_clear.result (ap not c.if-not-spare_clear.false) c.spare_clear.ensures)
    c.if-counts-eq0.true c.own_totals.result c.own_totals.ensures

pub returns-else-counts-eq0 : goal.returns-else-counts-eq0
returns-else-counts-eq0 c = rw (ne_eqb _ 0 c.if-counts-eq0.false)
    (three_unsound _ _ _ c.tally-counts.result c.tally-counts.ensures c.if-counts-eq0.false)
