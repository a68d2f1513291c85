-- `report_size` adds up the rows. The invariant: the total is the size of the rows of the lines passed.
use mathlib.Core.Path.{◌≡◌}
use lib.ListN.{length}
use Rattle.register.specs.Texts.{rows_to}
use Rattle.mend_report.proofs.NumberedReport.{row_at}
use Rattle.mend_report.proofs.report_size.Given as goal

abbrev pub invariant-loop-k : goal.invariant-loop-k
invariant-loop-k l = l.total ≡ length (rows_to l.k (row_at l.fates))
