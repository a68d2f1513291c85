-- `read_catalogue`: what the rooms begin with, once a catalogue is read, is in order.
use Rattle.register_read.proofs.Lent.{rooms_handed}
use Rattle.catalogue_read.proofs.read_catalogue.Goals as goal

pub invariant_of-pairs : goal.invariant_of-pairs
invariant_of-pairs c =
    let read = rw c.in_ok-n.was at c.read.ensures in
    record { handed = rooms_handed _ read.1.catalogue.valid _ _ _ _ _ _ read.2 }
