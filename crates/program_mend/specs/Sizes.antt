-- How two rooms hold what `mend` prints and reports.
use Rattle.std.specs.Prelude.{List, ℕ, ◌≤◌, take, length, Option, Some, None}
use Rattle.promises.specs.Programs.{Outcome, no_report, with_report}

-- How two rooms hold it: from the start of each, as many bytes as are answered, and they are inside.
abbrev pub outcome_in : (printed : ℕ) → (reported : Option ℕ) → (room report : List ℕ) → Outcome
outcome_in n None room report = no_report (take n room)
outcome_in n (Some m) room report = with_report (take n room) (take m report)

abbrev pub Inside : (printed : ℕ) → (reported : Option ℕ) → (room report : List ℕ) → Type 0
Inside n None room report = n ≤ length room
Inside n (Some m) room report = (n ≤ length room) × (m ≤ length report)
