-- `size` adds up the three parts of the listing.
use native.Mathlib.Omega.{arith}
use Rattle.listing_write.specs.ListingParts.{listing_of}
use Rattle.listing_write.proofs.ListingParts.{whole_length}
use Rattle.listing_write.proofs.ListingTold.{ready_listing}
use Rattle.listing_write.proofs.size.Goals as goal

pub returns : goal.returns
returns c R ready = let r = c.args.register.now in (
  listing_of r,
  ready_listing R _ _ _ _ _ _ ready,
  omega (
    arith,
    whole_length r.numbers.now r.labelled.labels.now r.labelled.lengths.now r.labelled.pairs.objectors.now
        r.labelled.pairs.targets.now,
  ),
)
