-- From what reading and labelling leave in rooms to what the call for the listing promises. That the rooms hold the register and
-- its labels is left to `register_solve`, the listing to `listing_write`.
use mathlib.Core.Bool.{Bool, false, true}
use mathlib.Core.List.{List, ◌++◌}
use mathlib.Core.Path.{ap, refl, ◌≡◌}
use Prim.Native.Nat.{ℕ, ◌≤◌, ◌<◌}
use native.Mathlib.Omega.{arith}
use lib.ListN.{length, drop}
use Rattle.register.specs.Register.{Register}
use Rattle.listing.specs.Listing.{IsListing}
use Rattle.listing.proofs.Listing.{listing_once}
use Rattle.answer.specs.declared.Refusal.TheVariants.{Room}
use Rattle.std.specs.Prelude.{Ok, Err}
use Rattle.call_listing.specs.ListingRoom.{HasRoom, ListingWritten}

-- whether there is room is told by the listing's own size
pub room_decided : (R : Register) (l : List ℕ) → IsListing R l → (room : ℕ) (b : Bool) → (b ≡ true → length l ≤ room)
    → (b ≡ false → room < length l) → HasRoom R room b
room_decided R l is room true fits short = λ k k_is. omega (arith, fits refl, ap length (listing_once R l k is k_is))
room_decided R l is room false fits short = (l, is, short refl)

-- where the listing is too long for the room, and where it was written
pub too_long : (R : Register) (room : List ℕ) → HasRoom R (length room) false → ListingWritten R room (Err Room) room
too_long R room short = ((short, refl), refl)

pub well_written : (R : Register) (room : List ℕ) → HasRoom R (length room) true → (size : ℕ) (after : List ℕ)
    → ((l : List ℕ) × IsListing R l × (size ≡ length l) × (after ≡ l ++ drop (length l) room))
    → ListingWritten R room (Ok size) after
well_written R room fits size after (l, is, counts, e) = (l, is, (counts, fits l is, e))
