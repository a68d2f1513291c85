-- From a register that is read and labelled to the labels that a sheet is made of.
use mathlib.Core.List.{List}
use mathlib.Core.Path.{ap, ◌≡◌, ◌∙◌}
use Prim.Native.Nat.{ℕ, ◌≤◌}
use native.Mathlib.Omega.{arith}
use lib.ListN.{length, take}
use Rattle.std.proofs.lemmas.List.{get_or-take, length-take-le}
use Rattle.game.specs.Book.{book_of}
use Rattle.register.specs.Register.{Register, book}
use Rattle.register.proofs.Order.{marks_counted, numbers_counted}
use Rattle.sheet_code.specs.SheetParts.{LabelsOf}
use Rattle.register_solve.specs.SolvedAs.{ReadyAs}
use Rattle.register_solve.specs.declared.labelled_register.LabelledRegister.{LabelledRegister}

module _ (R : Register) (r : LabelledRegister) (ready : ReadyAs R r) where
  -- the labels that are lent, as many as there are numbers
  abbrev labels : List ℕ
  labels = take (length r.numbers.now) r.labelled.labels.now

  listed : length R.statements ≡ length r.numbers.now
  listed = omega (arith, ap length ready.made.numbers_are, numbers_counted R)

  lent : length labels ≡ length r.numbers.now
  lent = length-take-le (length r.numbers.now) r.labelled.labels.now (omega (arith, listed, ready.labels_room))

  pub few_listed : length labels ≤ 1024
  few_listed = omega (arith, lent, listed, ready.made.valid.few_statements)

  -- the labels that the solver leaves are those of the register's book
  pub labels_of : LabelsOf (book R) (length labels) labels
  unfolding book_of
  labels_of = record {
    size = counted;
    each = λ x h. let t = ready.labelled.told x (omega (arith, counted)) in (
      t.verdict,
      t.means,
      get_or-take (length r.numbers.now) r.labelled.labels.now x 0 (omega (arith, lent)) ∙ t.label_is,
    );
  }
    where
      counted : (book R).size ≡ length labels
      counted = omega (arith, marks_counted R ready.made.valid, listed, lent)
