-- `set_codes`: the invariant is that the codes passed are set, and the others as they were.
use Rattle.sheet_code.specs.SheetParts.{Coded}
use Rattle.sheet_fill.proofs.set_codes.Given as goal

abbrev pub invariant-loop-x : goal.invariant-loop-x
invariant-loop-x l = Coded l.x l.labels l.initial.sheet l.sheet
