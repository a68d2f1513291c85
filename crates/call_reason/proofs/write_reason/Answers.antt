-- `write_reason` refuses a number that is not found; the rows of the objections that there are, by their ticks, are the reason of
-- the statement asked.
use mathlib.Core.Path.{refl, ◌≡◌}
use native.Mathlib.Omega.{arith}
use Rattle.std.specs.Prelude.{Err}
use Rattle.pair_chain.proofs.ChainSteps.{all_zero}
use Rattle.answer.specs.declared.Refusal.TheVariants.{Asked}
use Rattle.register_solve.proofs.AskedPlace.{unlisted, place}
use Rattle.call_reason.proofs.AskedReason.{chosen_taken, reason_written}
use Rattle.call_reason.proofs.write_reason.Goals as goal

pub choose-requires-clause-objectors_in_bounds : goal.choose-requires-clause-objectors_in_bounds
choose-requires-clause-objectors_in_bounds c = (c.args.register.now.labelled.pairs.handed.few_pairs, λ k. all_zero 4096 k)

pub returns-in_err-x : goal.returns-in_err-x
returns-in_err-x c = λ R ready.
    let answer : c.from_residual.result ≡ Err Asked = grind arith in
    rw answer (unlisted R _ _ _ _ ready.made _ (rw c.in_err-x.ensures.ok_part at c.find.ensures) _ _, refl)

pub returns : goal.returns
returns c = λ R ready.
    let there = place R _ _ _ _ ready.made _ _ (rw c.in_ok-x.ensures.ok_part at c.find.ensures) in
    reason_written R c.args.register.now ready _ _ there _ (chosen_taken _ _ _ _ _ c.choose.ensures) _ _ _ c.write_rows.ensures
