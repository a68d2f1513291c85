-- `text_catalogue` writes the register that the reader left.
use mathlib.Core.Path.{ap, ◌≡◌}
use native.Mathlib.Omega.{arith}
use Prim.Native.Nat.{◌<◌}
use lib.ListN.{length}
use Rattle.std.specs.Prelude.{Ok}
use Rattle.answer.specs.Answer.{Short, Written}
use Rattle.answer.proofs.Inputs.{on_promised}
use Rattle.catalogue.specs.Regrouped.{catalogued}
use Rattle.catalogue.proofs.Sizes.{never_longer}
use Rattle.promises.proofs.OnText.{text_apart}
use Rattle.call_catalogue.proofs.text_catalogue.Goals as goal

pub write_catalogue-requires : goal.write_catalogue-requires
write_catalogue-requires c =
    let was : c.read_register.result ≡ Ok c.in_ok-register.register = grind arith in
    let read = rw was at c.read_register.ensures in
    let accepts = read.1 in (
      omega (arith, accepts.fits),
      (read.0, read.2, omega (arith, never_longer read.0 accepts.valid, ap length accepts.is_written)),
    )

pub returns : goal.returns
returns c =
    let was : c.read_register.result ≡ Ok c.in_ok-register.register = grind arith in
    let read = rw was at c.read_register.ensures in
    let accepts = read.1 in
    on_promised (text_apart c.args.text.now) (λ R. Short (length c.args.room.now < length (catalogued R)))
    (λ R. Written (catalogued R) c.args.room.now) read.0 accepts c.args.room.now c.write_catalogue.result
    c.write_catalogue.new.room
    (c.write_catalogue.ensures read.0 read.2 (omega (arith, never_longer read.0 accepts.valid, ap length accepts.is_written)))
