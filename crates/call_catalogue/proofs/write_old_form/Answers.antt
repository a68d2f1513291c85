-- `write_old_form` asks for the size before anything is written.
use native.Mathlib.Omega.{arith}
use Rattle.register.specs.Register.{written}
use Rattle.register_write.proofs.Copied.{made_copyable, made_size}
use Rattle.call_catalogue.proofs.FormGiven.{too_long, old_form_written}
use Rattle.call_catalogue.proofs.write_old_form.Goals as goal

pub register_size-size-requires : goal.register_size-size-requires
register_size-size-requires c = made_copyable c.requires.0 _ _ _ _ c.requires.1

pub returns-then-room-size : goal.returns-then-room-size
returns-then-room-size c = λ R made short. too_long (written R) c.args.room.now
    (omega (arith, c.if-room-size.true, made_size R _ _ _ _ made c.register_size-size.result c.register_size-size.ensures))

pub put_register-requires : goal.put_register-requires
put_register-requires c =
    omega (arith, c.if-room-size.false, c.register_size-size.ensures c.args.register.now.pairs.marks.now)

pub overflow_cast-result : goal.overflow_cast-result
overflow_cast-result c = omega (
  arith,
  made_size c.requires.0 _ _ _ _ c.requires.1 c.register_size-size.result
      c.register_size-size.ensures,
  c.requires.2,
)

pub returns : goal.returns
returns c = λ R made short. old_form_written R _ _ _ _ made c.register_size-size.result c.register_size-size.ensures
    c.args.room.now
    c.if-room-size.false _ c.put_register.ensures
