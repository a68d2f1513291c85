-- `text_labels` hands the lists that the reader answers to the solver.
use mathlib.Core.Path.{◌≡◌}
use native.Mathlib.Omega.{arith}
use Rattle.std.specs.Prelude.{Ok}
use Rattle.game.specs.Account.{account_number}
use Rattle.call_labels_text.proofs.TextWritten.{written_text}
use Rattle.call_labels_text.proofs.text_labels.Goals as goal

pub returns : goal.returns
returns c =
    let was : c.read_register.result ≡ Ok c.in_ok-pairs.field-0 = grind arith in
    let read = rw was at c.read_register.ensures in
    written_text account_number c.args.text.now c.in_ok-pairs.field-0 read.0 read.1 read.2 _ _ _ c.write_labels.ensures
