-- `answer` chains the objections by target, begins with empty tables and asks the two questions in turn.
use mathlib.Core.Path.{sym, ◌∙◌}
use Rattle.pair_chain.proofs.ChainSteps.{all_zero}
use Rattle.game.proofs.Exercise.{answers_falls, answers_stands, answers_neither}
use Rattle.exercise_within.proofs.KnownTable.{fresh_both}
use Rattle.exercise_ask.proofs.answer.Goals as goal

pub chain-requires-clause-empty : goal.chain-requires-clause-empty
chain-requires-clause-empty c = λ x. all_zero 1024 x

pub falls_within-requires-clause-known : goal.falls_within-requires-clause-known
falls_within-requires-clause-known c = fresh_both _

pub returns-then-falls_within : goal.returns-then-falls_within
returns-then-falls_within c = answers_falls _ _ _ (sym c.falls_within.ensures.0 ∙ c.if-falls_within.true)

pub returns-then-stands_within : goal.returns-then-stands_within
returns-then-stands_within c = answers_stands _ _ _ (sym c.stands_within.ensures.0 ∙ c.if-stands_within.true)

pub returns : goal.returns
returns c =
    answers_neither _ _ _ (sym c.falls_within.ensures.0 ∙ c.if-falls_within.false)
    (sym c.stands_within.ensures.0 ∙ c.if-stands_within.false)
