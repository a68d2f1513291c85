-- `read_cards`: the invariant is that the lines passed are sound cards, which the rooms hold, and that their numbers are indexed.
use native.Mathlib.Omega.{arith}
use Rattle.std.specs.Prelude.{Some}
use Rattle.std.proofs.lemmas.Result.{err_from_is_err_and}
use Rattle.std.proofs.Common.{◌≡◌, ◌∙◌, sym, refl, rules}
use lib.Seq.{length-take-le}
use Rattle.catalogue_read.proofs.Reader.{start, fault, kept, overall, refused, few_objectors, filed_part}
use Rattle.catalogue_read.proofs.read_cards.Goals as goal

pub loop-at-init : goal.loop-at-init
loop-at-init c = record {
  held = rw c.requires.indexed.0 (start _ _ _ _ _);
  indexed = c.requires.indexed.1;
  same = (refl, refl, refl);
}

pub returns-in_err-take_card-clause-lists : goal.returns-in_err-take_card-clause-lists
returns-in_err-take_card-clause-lists c =
    let card = c.in_ok-statement in
    let line : c.card_at.result ≡ Some (card.statement, card.count, card.next) = grind arith in
    let p = err_from_is_err_and c.from_residual-in_err-take_card.result c.from_residual-in_err-take_card.ensures.1 in
    rw (p.1, p.2) (fault _ _ _ _ _ _ _ _ c.loop-at.invariant.held c.requires.ended.0 c.requires.ended.1 _ _ _ _
    _ (rw line at c.card_at.ensures) _ (rw c.in_err-take_card.was at c.take_card.ensures.taken))

pub loop-at-preserved : goal.loop-at-preserved
loop-at-preserved c =
    let card = c.in_ok-statement in
    let line : c.card_at.result ≡ Some (card.statement, card.count, card.next) = grind arith in
    let taken = rw c.in_ok-take_card.was at c.take_card.ensures.taken in
    let more = rw c.in_ok-take_card.was at c.take_card.ensures.count in
    let indexed = rw c.in_ok-take_card.was at c.take_card.ensures.in_step in
    record {
      held =
          rw more (kept _ _ _ _ _ _ _ _ c.loop-at.invariant.held _ _ _ _ _ _ _
          (omega (arith, c.loop-at.invariant.same.2, c.requires.spacious.numbers_room))
          (omega (arith, c.loop-at.auto.marks, c.requires.spacious.marks_room))
          (omega (arith, c.loop-at.auto.objectors, c.requires.spacious.objectors_room))
          (omega (arith, c.loop-at.auto.targets, c.requires.spacious.targets_room)) (rw line at c.card_at.ensures) taken);
      indexed = rw more indexed;
      same = search rules;
    }

pub settle-requires-clause-filed : goal.settle-requires-clause-filed
settle-requires-clause-filed c = (
  c.loop-at.invariant.held.cards,
  filed_part c.loop-at.invariant.held.filed
      (omega (arith, c.loop-at.auto.objectors, c.requires.spacious.objectors_room))
      (omega (arith, c.loop-at.auto.targets, c.requires.spacious.targets_room)),
)

pub settle-requires-clause-indexed : goal.settle-requires-clause-indexed
settle-requires-clause-indexed c =
    let few = few_objectors c.loop-at.invariant.held.filed in (
      c.loop-at.invariant.indexed,
      length-take-le _ _ (omega (arith, few, c.loop-at.auto.targets, c.requires.spacious.targets_room))
          ∙ sym (length-take-le _ _ (omega (arith, few, c.loop-at.auto.objectors, c.requires.spacious.objectors_room))),
    )

pub returns-in_err-settle-clause-lists : goal.returns-in_err-settle-clause-lists
returns-in_err-settle-clause-lists c =
    let p = err_from_is_err_and c.from_residual-in_err-settle.result c.from_residual-in_err-settle.ensures.1 in
    rw (p.1, p.2) (refused _ _ _ _ _ _ _ _ c.loop-at.invariant.held c.requires.ended.0 c.loop-at-test.false _
    (c.in_err-settle.ensures c.loop-at.invariant.held.cards (filed_part c.loop-at.invariant.held.filed
    (omega (arith, c.loop-at.auto.objectors, c.requires.spacious.objectors_room))
    (omega (arith, c.loop-at.auto.targets, c.requires.spacious.targets_room)))))

pub returns-clause-lists : goal.returns-clause-lists
returns-clause-lists c =
    let few = few_objectors c.loop-at.invariant.held.filed in
    overall _ _ _ _ _ _ _ _ c.loop-at.invariant.held c.requires.ended.0 c.loop-at-test.false c.settle.new.objectors _
    (c.in_ok-settle.ensures c.loop-at.invariant.held.cards (filed_part c.loop-at.invariant.held.filed
    (omega (arith, c.loop-at.auto.objectors, c.requires.spacious.objectors_room))
    (omega (arith, c.loop-at.auto.targets, c.requires.spacious.targets_room))))
    (c.settle.auto.objectors
    ∙ length-take-le _ _ (omega (arith, few, c.loop-at.auto.objectors, c.requires.spacious.objectors_room)))
