-- `text_exercise` asks of the register that the reader answers.
use mathlib.Core.Path.{◌≡◌}
use native.Mathlib.Omega.{arith}
use Rattle.std.specs.Prelude.{Ok}
use Rattle.register.specs.Register.{Issued}
use Rattle.answer.specs.Answer.{Asks}
use Rattle.answer.proofs.Inputs.{on_promised}
use Rattle.promises.specs.ExerciseCalls.{TextExerciseIn}
use Rattle.promises.proofs.OnText.{text_apart}
use Rattle.call_exercise.proofs.text_exercise.Goals as goal

pub returns : goal.returns
returns c =
    let was : c.read_register.result ≡ Ok c.in_ok-register.register = grind arith in
    let read = rw was at c.read_register.ensures in
    on_promised (text_apart c.args.text.now) (λ R. Asks (Issued R c.args.number) c.args.turns ⊥)
    (λ R. TextExerciseIn R c.args.number c.args.turns) read.0 read.1 tt c.ask_exercise.result tt
    (c.ask_exercise.ensures read.0 read.2)
