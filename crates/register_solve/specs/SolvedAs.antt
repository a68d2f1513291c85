-- What reading and labelling a text answer, as one value: for the code that answers about a register, not for callers of the
-- product.
use Rattle.std.specs.Prelude.{Result, Ok, Err, List, ℕ}
use Rattle.register.specs.Register.{Register}
use Rattle.register.specs.declared.TextFault.{TextFault}
use Rattle.register.specs.Reads.{Accepts, Refuses}
use Rattle.register_solve.specs.SolvedText.{Ready}
use Rattle.register_solve.specs.declared.labelled_register.LabelledRegister.{LabelledRegister}

-- a register that is lent as one value is R, as reading and labelling R's text leave it
abbrev pub ReadyAs : Register → LabelledRegister → Type 0
ReadyAs R r = Ready R r.numbers.now r.labelled.pairs.marks.now r.labelled.pairs.objectors.now r.labelled.pairs.targets.now
    r.labelled.labels.now r.labelled.lengths.now

-- the text is read and its statements are labelled, or it is refused
abbrev pub SolvedAs : List ℕ → Result LabelledRegister TextFault → Type 0
SolvedAs text (Ok r) = (R : Register) × Accepts text R × ReadyAs R r
SolvedAs text (Err fault) = Refuses text fault
