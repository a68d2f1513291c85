-- `write_argument` refuses a number that is not found; it has the line written by places, and then told by numbers.
use mathlib.Core.Path.{refl, ◌≡◌}
use native.Mathlib.Omega.{arith}
use Rattle.std.specs.Prelude.{Err}
use Rattle.answer.specs.declared.Refusal.TheVariants.{Asked}
use Rattle.register_solve.proofs.AskedPlace.{unlisted, place}
use Rattle.call_argument.proofs.LineLent.{line_few, places_listed, line_given}
use Rattle.std.proofs.Common.{rules}
use Rattle.call_argument.proofs.write_argument.Goals as goal

pub renumber-requires : goal.renumber-requires
renumber-requires c = λ k h. omega (
  arith,
  c.args.register.now.numbered,
  places_listed _ _ _ _ _ _ _ c.argument-n.ensures (omega (arith, c.argument-n.auto.room))
      (search rules) k h,
)

pub overflow_cast-result : goal.overflow_cast-result
overflow_cast-result c = omega (
  arith,
  line_few _ _ _ _ _ _ _ c.argument-n.ensures (search rules)
      c.args.register.now.labelled.pairs.handed.few_marks,
)

pub returns-in_err-x : goal.returns-in_err-x
returns-in_err-x c = λ R ready.
    let answer : c.from_residual.result ≡ Err Asked = grind arith in
    rw answer (unlisted R _ _ _ _ ready.made _ (rw c.in_err-x.ensures.ok_part at c.find.ensures) _ _, refl)

pub returns : goal.returns
returns c = λ R ready.
    let there = place R _ _ _ _ ready.made _ _ (rw c.in_ok-x.ensures.ok_part at c.find.ensures) in
    line_given c.args.register.now _ _ _ _ c.argument-n.ensures (omega (arith, c.argument-n.auto.room)) _ R ready there _
    c.renumber.ensures
