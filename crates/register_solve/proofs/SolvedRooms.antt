-- From the rooms that reading leaves to the solver, and from the solver to the crates above.
use mathlib.Core.List.{List}
use Prim.Native.Nat.{ℕ, ◌≤◌, ◌<◌}
use native.Mathlib.Omega.{arith}
use lib.ListN.{take, length}
use Rattle.lists.specs.Handed.{Handed}
use Rattle.label_solve.specs.Labelled.{Solved}
use Rattle.register.specs.Register.{Register, marks_of}
use Rattle.register_read.specs.ReadState.{ReadsTo}
use Rattle.std.specs.Prelude.{Ok}
use Rattle.register.proofs.Order.{marks_counted}
use Rattle.register_read.proofs.Lent.{made, rooms_handed}
use Rattle.register_solve.specs.SolvedText.{SolvedText, Ready}

module _ (s nums marks objectors targets : List ℕ) (n m : ℕ) (read : ReadsTo s nums marks objectors targets (Ok (n, m))) where
  pub few : (n ≤ 1024) × (m ≤ 4096)
  few = (
    omega (arith, read.2.statements, read.1.valid.few_statements),
    omega (arith, read.2.objections, read.1.valid.few_objections),
  )

  pub rooms_handed_lem : Handed (take n marks) (take m objectors) (take m targets)
  rooms_handed_lem = rooms_handed read.0 read.1.valid n m nums marks objectors targets read.2

  pub rooms_solved : (labels lengths labels' lengths' : List ℕ)
      → Solved (take n marks) (take m objectors) (take m targets) labels lengths labels' lengths'
      → SolvedText s nums marks objectors targets labels' lengths' (Ok (n, m))
  rooms_solved labels lengths labels' lengths' solved =
      (read.0, read.1, read.2, rw (read.2.marks_are, read.2.objectors_are, read.2.targets_are) at solved.labelled)

-- what is read and labelled
module _ (s nums marks objectors targets labels lengths : List ℕ) (n m : ℕ)
    (w : SolvedText s nums marks objectors targets labels lengths (Ok (n, m))) where
  pub listed : (x : ℕ) → x < n → x < length (marks_of w.0)
  listed x h = omega (arith, marks_counted w.0 w.1.valid, w.2.statements)

  pub few_listed : n ≤ 1024
  few_listed = omega (arith, w.2.statements, w.1.valid.few_statements)

  pub few_objections : m ≤ 4096
  few_objections = omega (arith, w.2.objections, w.1.valid.few_objections)

  -- the register is ready for what is asked of it
  pub rooms_ready : 1024 ≤ length labels → 1024 ≤ length lengths
      → Ready w.0 (take n nums) (take n marks) (take m objectors) (take m targets) labels lengths
  rooms_ready a b = record {
    made = made w.0 w.1.valid n m nums marks objectors targets w.2;
    labels_room = omega (arith, w.1.valid.few_statements);
    lengths_room = omega (arith, w.1.valid.few_statements);
    labelled = w.3;
  }
