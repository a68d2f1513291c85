-- `pass_objection`: a line of each kind; only an objection is settled.
use native.Mathlib.Omega.{arith}
use Rattle.pair_words.specs.Words.{objectors_in, targets_in}
use Rattle.pair_words.proofs.Views.{objectors_length, targets_length}
use Rattle.mend_text.proofs.Passing.{over_unended, over_spoiled, over_statement, over_objection}
use Rattle.mend_text.proofs.pass_objection.Goals as goal

pub returns-in-Unended : goal.returns-in-Unended
returns-in-Unended c = (
  (
      λ ls R lines valid holds. over_unended c.args.text.now c.args.at ls lines R c.args.index.now.n c.args.m
      c.args.index.now.numbers.now c.args.marks.now (objectors_in c.args.objectors.now)
      (targets_in c.args.objectors.now) holds valid c.args.fates.now c.args.k c.requires.at_in_bounds.0 c.in-Unended.ensures
      ),
  c.requires.objection_rooms.2,
)

pub returns-in-Spoiled : goal.returns-in-Spoiled
returns-in-Spoiled c = (
  (
      λ ls R lines valid holds. over_spoiled c.args.text.now c.args.at ls lines R c.args.index.now.n c.args.m
      c.args.index.now.numbers.now c.args.marks.now (objectors_in c.args.objectors.now)
      (targets_in c.args.objectors.now) holds valid c.args.fates.now c.args.k c.in-Spoiled.next c.in-Spoiled.ensures
      ),
  c.requires.objection_rooms.2,
)

pub returns-in-Good-Statement-default : goal.returns-in-Good-Statement-default
returns-in-Good-Statement-default c = (
  (
      λ ls R lines valid holds. over_statement c.args.text.now c.args.at ls lines R c.args.index.now.n c.args.m
      c.args.index.now.numbers.now
      c.args.marks.now (objectors_in c.args.objectors.now) (targets_in c.args.objectors.now) holds valid
      c.args.fates.now c.args.k c.in-Good-Statement-default.field-0-0 c.in-Good-Statement-default.next
      (rw c.in-Good-Statement-default.field-0-is at c.in-Good-Statement-default.ensures)
      ),
  c.requires.objection_rooms.2,
)

pub returns-in-Good-Objection-default : goal.returns-in-Good-Objection-default
returns-in-Good-Objection-default c = (
  (
      λ ls R lines valid holds. over_objection c.args.text.now c.args.at ls lines R c.args.index.now.n c.args.m
      c.args.index.now.numbers.now
      c.args.marks.now (objectors_in c.args.objectors.now) (targets_in c.args.objectors.now) holds valid
      c.args.fates.now c.args.k c.in-Good-Objection-default.objection c.in-Good-Objection-default.next
      (rw c.in-Good-Objection-default.field-0-is at c.in-Good-Objection-default.ensures)
      (omega (arith, c.requires.objection_rooms.1.few, c.requires.at_in_bounds.3))
      (omega (arith, c.requires.objection_rooms.0.0, objectors_length c.args.objectors.now))
      (omega (arith, c.requires.objection_rooms.0.0, targets_length c.args.objectors.now)) c.settle_objection-fate.result _ _ _
      c.settle_objection-fate.ensures.0
      c.kept.result
      c.kept.ensures
      ),
  rw c.kept.ensures c.settle_objection-fate.ensures.1,
)
