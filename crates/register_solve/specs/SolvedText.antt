-- What reading and labelling a text leave in the rooms: for the code that answers about a register, not for callers of the
-- product.
use Rattle.std.specs.Prelude.{Result, Ok, Err, List, ℕ, ◌≤◌, length}
use Rattle.label_solve.specs.Labelled.{Labelled}
use Rattle.register.specs.Register.{Register, book}
use Rattle.register.specs.declared.TextFault.{TextFault}
use Rattle.register.specs.Reads.{Accepts, Refuses}
use Rattle.register_read.specs.ReadState.{Holds, Made}

-- The rest is not for callers. The text is read into rooms, and its statements are labelled; or it is refused.
abbrev pub SolvedText : (text nums marks objectors targets labels lengths : List ℕ) → Result (ℕ × ℕ) TextFault → Type 0
SolvedText text nums marks objectors targets labels lengths (Ok (n, m)) =
    (R : Register) × Accepts text R × Holds R n m nums marks objectors targets × Labelled (book R) labels lengths
SolvedText text nums marks objectors targets labels lengths (Err r) = Refuses text r

-- A register that is in order, as lists of just its length, with the labels and lengths of its statements in lists of that
-- length or longer.
pub record Ready (R : Register) (nums marks objectors targets labels lengths : List ℕ) : Type 0 where
  pub made : Made R nums marks objectors targets
  pub labels_room : length R.statements ≤ length labels
  pub lengths_room : length R.statements ≤ length lengths
  pub labelled : Labelled (book R) labels lengths
