-- `put_register` puts one part behind the other.
use native.Mathlib.Omega.{arith}
use Rattle.register_write.proofs.Copied.{copied_length, copied_put}
use Rattle.register_write.proofs.put_register.Goals as goal

pub put_statements-end-requires : goal.put_statements-end-requires
put_statements-end-requires c = omega (arith, copied_length)

pub put_objections-requires : goal.put_objections-requires
put_objections-requires c = omega (arith, copied_length)

pub returns : goal.returns
returns c = copied_put _ _ _ _ _ c.requires c.put_statements-end.ensures c.put_objections.ensures
