-- `text_reason` hands on the register that the solver leaves.
use mathlib.Core.Path.{◌≡◌}
use native.Mathlib.Omega.{arith}
use Rattle.std.specs.Prelude.{Ok}
use Rattle.call_reason.proofs.text_reason.Goals as goal

pub write_reason-requires : goal.write_reason-requires
write_reason-requires c =
    let was : c.solve_register.result ≡ Ok c.in_ok-register.register = grind arith in
    let solved = rw was at c.solve_register.ensures in
    (solved.0, solved.2)
