-- `entry_size` looks up the numbers and the kind of one objection.
use mathlib.Core.Path.{ap, ◌∙◌}
use lib.ListN.{length}
use Rattle.listing_row.proofs.RegisterRows.{entry_told}
use Rattle.listing_row.proofs.entry_size.Goals as goal

pub returns : goal.returns
returns c = c.objection_size.ensures
    ∙ ap length (entry_told c.args.register.now c.requires.0 c.args.k c.kind_at-kind.result c.requires.1 c.kind_at-kind.ensures)
