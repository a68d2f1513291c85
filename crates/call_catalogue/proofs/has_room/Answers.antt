-- `has_room`: a room as long as the longest catalogue has room for each, and any other is held against the catalogue's own size.
use native.Mathlib.Omega.{arith}
use Rattle.call_catalogue.proofs.FormGiven.{form_decided}
use Rattle.call_catalogue.proofs.has_room.Goals as goal

pub returns : goal.returns
returns c = λ R made short.
    form_decided _ _ _ (λ h. grind (arith, c.size.ensures R made)) (λ h. grind (arith, c.size.ensures R made))
