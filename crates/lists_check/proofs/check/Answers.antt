-- `check` goes through the rows of 01's table in order; each search that found nothing rules its row out.
use mathlib.Core.Path.{refl}
use native.Mathlib.Omega.{arith}
use Rattle.lists.proofs.Refuses.{accepted}
use Rattle.lists_check.proofs.check.Goals as goal

pub returns : goal.returns
returns c = (
  accepted _ _ _ (omega arith) (omega arith) (omega arith) (λ j p. c.in_default.ensures j p.0 p)
      (λ j p. c.in_default-bad_place.ensures j p.0 p) (λ j p. c.in_default-repeated.ensures j p.0 p),
  refl,
  refl,
  refl,
)
