-- `tally`: the invariant is that the statements passed are counted.
use mathlib.Core.Path.{refl, ◌∙◌}
use lib.ListN.{length-set}
use Rattle.sheet_code.proofs.Totals.{nothing_tallied, tallied_more}
use Rattle.sheet_code.proofs.tally.Goals as goal

pub loop-x-init : goal.loop-x-init
loop-x-init c = record { four = refl; tallied = nothing_tallied c.args.sheet.now }

pub loop-x-preserved : goal.loop-x-preserved
loop-x-preserved c = record {
  four = length-set c.loop-x.counts c.from.result _ ∙ c.loop-x.invariant.four;
  tallied = rw (c.from.ensures ∙ c.code_at.ensures)
      (tallied_more c.args.sheet.now c.loop-x.x c.loop-x.counts c.loop-x.invariant.four c.loop-x.invariant.tallied);
}
