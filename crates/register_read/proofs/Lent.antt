-- What the rooms hold when a text is read: the beginnings that its register fills are the register's own lists, and in order.
use mathlib.Core.List.{List}
use Prim.Native.Nat.{ℕ}
use native.Mathlib.Omega.{arith}
use lib.ListN.{take}
use Rattle.lists.specs.Handed.{Handed}
use Rattle.register.specs.Register.{Register, Valid, marks_of, objectors_of, targets_of}
use Rattle.register.proofs.Order.{marks_counted, objectors_counted, register_in_order}
use Rattle.register_read.specs.ReadState.{Holds, Made}

pub register_handed : (R : Register) → Valid R → Handed (marks_of R) (objectors_of R) (targets_of R)
register_handed R v = record {
  few_marks = omega (arith, marks_counted R v, v.few_statements);
  few_pairs = omega (arith, objectors_counted R v, v.few_objections);
  order = register_in_order R v;
}

-- The rooms that hold a register begin with its lists.
module _ (R : Register) (v : Valid R) (n m : ℕ) (nums marks objectors targets : List ℕ)
    (h : Holds R n m nums marks objectors targets) where
  pub made : Made R (take n nums) (take n marks) (take m objectors) (take m targets)
  made = record {
    valid = v;
    numbers_are = h.numbers_are;
    marks_are = h.marks_are;
    objectors_are = h.objectors_are;
    targets_are = h.targets_are;
  }

  pub rooms_handed : Handed (take n marks) (take m objectors) (take m targets)
  rooms_handed = rw (h.marks_are, h.objectors_are, h.targets_are) (register_handed R v)
