-- `reach` goes along its own queue. The invariant: what has a tick is reached, and what comes before `at` is followed.
use mathlib.Core.Path.{refl, ◌∙◌}
use native.Mathlib.Omega.{arith}
use Rattle.pair_chain.proofs.ChainSteps.{all_zero}
use Rattle.reason_find.proofs.Ticks.{queued_none, grown_in_room}
use Rattle.reason_find.proofs.TickSteps.{spread_begins, spread_more, spread_listed, spread_ends}
use Rattle.reason_find.proofs.reach.Goals as goal

pub chain-requires-clause-empty : goal.chain-requires-clause-empty
chain-requires-clause-empty c = λ x. all_zero 1024 x

pub tick_statement-tail-requires : goal.tick_statement-tail-requires
tick_statement-tail-requires c = (
  queued_none _ _ _ refl (omega (arith, c.requires.room_len.0)) c.requires.room_len.1,
  omega (arith, c.requires.lists_labelled.1, c.args.labelled.now.pairs.handed.few_marks, c.requires.room_len.0),
  omega (arith, c.requires.room_len.0),
)

pub loop-at-init : goal.loop-at-init
loop-at-init c = (
  spread_begins _ _ _ _ _ c.args.room.now _ _ _ _ c.requires.room_len.1
      (grown_in_room _ _ _ c.args.room.now _ _ _ _ c.requires.room_len.0 c.tick_statement-tail.ensures.0)
      c.tick_statement-tail.ensures.1,
  c.tick_statement-tail.ensures.0.as_long,
)

pub tick_objectors-tail-requires-clause-lists_labelled : goal.tick_objectors-tail-requires-clause-lists_labelled
tick_objectors-tail-requires-clause-lists_labelled c = (
  c.requires.lists_labelled.0,
  omega (
    arith,
    spread_listed _ _ _ _ _ _ _ _ _ c.loop-at.invariant.0 c.requires.lists_labelled.1
        c.loop-at-test.true,
    c.from-x.ensures,
  ),
)

pub loop-at-preserved : goal.loop-at-preserved
loop-at-preserved c = (
  spread_more _ _ _ _ _ _ _ _ _ c.loop-at.invariant.0 _ _ _ _ c.loop-at-test.true c.from-x.ensures
      (grown_in_room _ _ _ _ _ _ _ _ c.loop-at.invariant.0.queued.same c.tick_objectors-tail.ensures.grown)
      c.tick_objectors-tail.ensures.ticked,
  c.tick_objectors-tail.ensures.grown.as_long ∙ c.loop-at.invariant.1,
)

pub returns : goal.returns
returns c = spread_ends _ _ _ _ _ _ _ _ _ c.loop-at.invariant.0 c.loop-at-test.false
