-- `fields_size` adds up the fields. The invariant: the total is the size of the fields passed.
use mathlib.Core.Path.{◌≡◌}
use lib.ListN.{length}
use Rattle.register.specs.Texts.{rows_to}
use Rattle.catalogue_write.specs.CatalogueRows.{register_field}
use Rattle.catalogue_write.proofs.fields_size.Given as goal

abbrev pub invariant-loop-y : goal.invariant-loop-y
invariant-loop-y l = l.total ≡ length (rows_to l.y-index (register_field l.register))
