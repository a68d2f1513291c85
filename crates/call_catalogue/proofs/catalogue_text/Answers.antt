-- `catalogue_text` writes the register that the reader answers.
use mathlib.Core.Path.{◌≡◌}
use native.Mathlib.Omega.{arith}
use Prim.Native.Nat.{◌<◌}
use lib.ListN.{length}
use Rattle.std.specs.Prelude.{Ok}
use Rattle.register.specs.Register.{written}
use Rattle.answer.specs.Answer.{Short, Written}
use Rattle.answer.proofs.Inputs.{on_promised}
use Rattle.promises.proofs.OnCatalogue.{catalogue_apart}
use Rattle.call_catalogue.proofs.catalogue_text.Goals as goal

pub write_old_form-requires : goal.write_old_form-requires
write_old_form-requires c =
    let was : c.read_catalogue.result ≡ Ok c.in_ok-register.register = grind arith in
    let read = rw was at c.read_catalogue.ensures in
    (read.0, read.2, read.1.fits)

pub returns : goal.returns
returns c =
    let was : c.read_catalogue.result ≡ Ok c.in_ok-register.register = grind arith in
    let read = rw was at c.read_catalogue.ensures in
    on_promised (catalogue_apart c.args.catalogue.now) (λ R. Short (length c.args.room.now < length (written R)))
    (λ R. Written (written R) c.args.room.now) read.0 read.1 c.args.room.now c.write_old_form.result
    c.write_old_form.new.room (c.write_old_form.ensures read.0 read.2 read.1.fits)
