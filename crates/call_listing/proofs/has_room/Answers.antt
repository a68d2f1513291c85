-- `has_room`: a room as long as the longest listing has room for each, and any other is held against the listing's own size.
use native.Mathlib.Omega.{arith}
use Rattle.call_listing.proofs.ListingGiven.{room_decided}
use Rattle.call_listing.proofs.has_room.Goals as goal

pub returns-then-room-ge131072 : goal.returns-then-room-ge131072
returns-then-room-ge131072 c = λ R ready bounded l is. omega (arith, bounded l is, c.if-room-ge131072.true)

pub returns : goal.returns
returns c = λ R ready bounded.
    let (l, is, e) = c.size.ensures R ready in
    room_decided R l is c.args.room _ (λ h. grind (arith, e)) (λ h. grind (arith, e))
