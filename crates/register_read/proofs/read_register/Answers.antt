-- `read_register`: what the rooms begin with, once a text is read, is in order.
use Rattle.register_read.proofs.Lent.{rooms_handed}
use Rattle.register_read.proofs.read_register.Goals as goal

pub invariant_of-pairs : goal.invariant_of-pairs
invariant_of-pairs c =
    let read = rw c.in_ok-n.was at c.read.ensures in
    record { handed = rooms_handed _ read.1.valid _ _ _ _ _ _ read.2 }
