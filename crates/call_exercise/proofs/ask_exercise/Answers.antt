-- `ask_exercise` refuses a number that is not found, and else answers about the statement at the place that is found.
use mathlib.Core.Path.{refl, subst, ◌≡◌}
use native.Mathlib.Omega.{arith}
use Rattle.std.specs.Prelude.{Err}
use Rattle.game.specs.Exercise.{Answered}
use Rattle.answer.specs.declared.Refusal.TheVariants.{Asked}
use Rattle.register_solve.proofs.AskedPlace.{book_is, unlisted, place}
use Rattle.call_exercise.proofs.ask_exercise.Goals as goal

pub returns-in_err-x : goal.returns-in_err-x
returns-in_err-x c = λ R made.
    let answer : c.from_residual.result ≡ Err Asked = grind arith in
    rw answer (unlisted R _ _ _ _ made _ (rw c.in_err-x.ensures.ok_part at c.find.ensures) _ _, refl)

pub returns : goal.returns
returns c = λ R made. (
  c.if-most-gt6.false,
  (
    c.in_ok-x.x,
    place R _ _ _ _ made _ _ (rw c.in_ok-x.ensures.ok_part at c.find.ensures),
    subst (λ B. Answered B c.in_ok-x.x c.args.turns c.answer.result) (book_is R _ _ _ _ made) c.answer.ensures,
  ),
)
