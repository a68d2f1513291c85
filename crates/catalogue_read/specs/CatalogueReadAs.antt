-- What reading a catalogue answers: the register that it makes, as lists, or why it is refused.
use Rattle.std.specs.Prelude.{Result, Ok, Err, List, ℕ}
use Rattle.lists.specs.declared.in_order.NumberedPairs.{NumberedPairs}
use Rattle.register.specs.declared.TextFault.{TextFault}
use Rattle.register.specs.Register.{Register}
use Rattle.catalogue.specs.CatalogueReads.{CatalogueAccepts, CatalogueRefuses}
use Rattle.register_read.specs.ReadAs.{MadeAs}

abbrev pub CatalogueReadAs : List ℕ → Result NumberedPairs TextFault → Type 0
CatalogueReadAs s (Ok p) = (R : Register) × CatalogueAccepts s R × MadeAs R p
CatalogueReadAs s (Err r) = CatalogueRefuses s r
