-- `in_c` says each case by the numbers that the refusal has.
use mathlib.Core.Path.{refl}
use Rattle.answer_number.proofs.in_c.Goals as goal

pub returns-in-Err : goal.returns-in-Err
returns-in-Err c = rw (c.in-Err.is, c.refusal_number.ensures, c.refusal_place.ensures) refl
