-- `read_lines`: the invariant is that the lines passed are a register in order, which the rooms hold, and that its numbers
-- are indexed.
use mathlib.Core.Path.{refl, ap, ◌∙◌, ◌≡◌}
use native.Mathlib.Omega.{arith}
use Rattle.std.specs.Prelude.{Some}
use Rattle.std.proofs.Common.{rules}
use Rattle.std.proofs.lemmas.Result.{err_from_is_err_and}
use Rattle.register_line.specs.LineReading.{GotAt}
use Rattle.register.specs.declared.Line.{Line}
use Rattle.register.specs.declared.Line.TheVariants.{Statement, Objection}
use Rattle.pair_words.specs.Words.{objectors_in, targets_in}
use Rattle.pair_words.proofs.Views.{objectors_length, targets_length}
use Rattle.register_read.proofs.Reader.{start, statement_fault, objection_fault, statement_kept}
use Rattle.register_read.proofs.Reader.{objection_kept}
use Rattle.register_read.proofs.read_lines.Goals as goal

pub loop-at-init : goal.loop-at-init
loop-at-init c = (
  rw c.requires.indexed.0 (start _ _ _ _ _),
  (refl, refl, refl),
  refl,
  refl,
  refl,
  c.requires.indexed.1,
  λ h. absurd (omega arith),
)

pub returns-in_err-take_statement-in-Statement-clause-lists : goal.returns-in_err-take_statement-in-Statement-clause-lists
returns-in_err-take_statement-in-Statement-clause-lists c =
    let line : c.line_from.result ≡ Some (c.in_ok-line.line, c.in_ok-line.next) = grind arith in
    let got : GotAt c.args.text.now c.loop-at.at (Some (Statement c.in-Statement.statement, c.in_ok-line.next)) =
    rw (line ∙ ap (λ (l : Line). Some (l, c.in_ok-line.next)) c.in-Statement.is) at c.line_from.ensures in
    let p = err_from_is_err_and c.from_residual-in_err-take_statement-in-Statement.result
    c.from_residual-in_err-take_statement-in-Statement.ensures.1 in
    rw (p.1, p.2) (statement_fault c.args.text.now c.loop-at.at c.loop-at.index.n c.loop-at.m
    c.loop-at.index.numbers.now c.loop-at.marks (objectors_in c.loop-at.objectors) (targets_in c.loop-at.objectors)
    c.loop-at.invariant.0 c.requires.text_len_bound.0 c.requires.text_len_bound.1 c.in-Statement.statement c.in_ok-line.next got
    _ c.loop-at.index.numbers.now c.loop-at.marks (rw c.in_err-take_statement-in-Statement.was at c.take_statement.ensures.taken))

pub returns-in_err-take_objection-in-Objection-clause-lists : goal.returns-in_err-take_objection-in-Objection-clause-lists
returns-in_err-take_objection-in-Objection-clause-lists c =
    let line : c.line_from.result ≡ Some (c.in_ok-line.line, c.in_ok-line.next) = grind arith in
    let got : GotAt c.args.text.now c.loop-at.at (Some (Objection c.in-Objection.objection, c.in_ok-line.next)) =
    rw (line ∙ ap (λ (l : Line). Some (l, c.in_ok-line.next)) c.in-Objection.is) at c.line_from.ensures in
    let p = err_from_is_err_and c.from_residual-in_err-take_objection-in-Objection.result
    c.from_residual-in_err-take_objection-in-Objection.ensures.1 in
    rw (p.1, p.2) (objection_fault c.args.text.now c.loop-at.at c.loop-at.index.n c.loop-at.m
    c.loop-at.index.numbers.now c.loop-at.marks (objectors_in c.loop-at.objectors) (targets_in c.loop-at.objectors)
    c.loop-at.invariant.0 c.requires.text_len_bound.0 c.requires.text_len_bound.1 c.in-Objection.objection c.in_ok-line.next got
    _ (objectors_in c.loop-at.objectors) (targets_in c.loop-at.objectors)
    (rw c.in_err-take_objection-in-Objection.was at c.take_objection.ensures.0))

pub loop-at-preserved-in_ok-take_statement-in-Statement : goal.loop-at-preserved-in_ok-take_statement-in-Statement
loop-at-preserved-in_ok-take_statement-in-Statement c =
    let line : c.line_from.result ≡ Some (c.in_ok-line.line, c.in_ok-line.next) = grind arith in
    let got : GotAt c.args.text.now c.loop-at.at (Some (Statement c.in-Statement.statement, c.in_ok-line.next)) =
    rw (line ∙ ap (λ (l : Line). Some (l, c.in_ok-line.next)) c.in-Statement.is) at c.line_from.ensures in
    let kept = rw c.in_ok-take_statement-in-Statement.was at c.take_statement.ensures.taken in
    let more = rw c.in_ok-take_statement-in-Statement.was at c.take_statement.ensures.count in
    let indexed = rw c.in_ok-take_statement-in-Statement.was at c.take_statement.ensures.in_step in (
      rw more (statement_kept c.args.text.now c.loop-at.at c.loop-at.index.n c.loop-at.m
          c.loop-at.index.numbers.now c.loop-at.marks (objectors_in c.loop-at.objectors)
          (targets_in c.loop-at.objectors)
          c.loop-at.invariant.0 c.in-Statement.statement c.in_ok-line.next _ _
          (omega (arith, c.loop-at.invariant.1.2, c.requires.spacious.numbers_room))
          (omega (arith, c.loop-at.invariant.2, c.requires.spacious.marks_room)) got kept),
      search rules,
      c.take_statement.auto.marks ∙ c.loop-at.invariant.2,
      c.loop-at.invariant.3,
      c.loop-at.invariant.4,
      rw more indexed,
      λ h. absurd (omega (arith, kept.0)),
    )

pub loop-at-preserved : goal.loop-at-preserved
loop-at-preserved c =
    let line : c.line_from.result ≡ Some (c.in_ok-line.line, c.in_ok-line.next) = grind arith in
    let got : GotAt c.args.text.now c.loop-at.at (Some (Objection c.in-Objection.objection, c.in_ok-line.next)) =
    rw (line ∙ ap (λ (l : Line). Some (l, c.in_ok-line.next)) c.in-Objection.is) at c.line_from.ensures in
    let kept = rw c.in_ok-take_objection-in-Objection.was at c.take_objection.ensures in (
      objection_kept c.args.text.now c.loop-at.at c.loop-at.index.n c.loop-at.m
          c.loop-at.index.numbers.now c.loop-at.marks (objectors_in c.loop-at.objectors)
          (targets_in c.loop-at.objectors)
          c.loop-at.invariant.0 c.in-Objection.objection c.in_ok-line.next _ _
          (omega (arith, c.loop-at.invariant.3, c.requires.spacious.objectors_room, objectors_length c.loop-at.objectors))
          (omega (arith, c.loop-at.invariant.3, c.requires.spacious.objectors_room, targets_length c.loop-at.objectors)) got
          kept.0,
      c.loop-at.invariant.1,
      c.loop-at.invariant.2,
      c.take_objection.auto.objectors ∙ c.loop-at.invariant.3,
      c.take_objection.auto.targets
          ∙ c.loop-at.invariant.4,
      c.loop-at.invariant.5,
      λ _. kept.1,
    )
