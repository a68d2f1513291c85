-- The promise of the call for the listing of a register text. What a listing is, `listing` says.
use Rattle.std.specs.Prelude.{List, ℕ, ◌<◌, length}
use Rattle.register.specs.Register.{Register}
use Rattle.promises.specs.OnText.{OnText}
use Rattle.listing.specs.Listing.{IsListing}
use Rattle.answer.specs.Answer.{Written, Short}
use Rattle.answer.specs.Answer.{Answer}

-- the room holds the register's listing, n bytes; the room is shorter than that
abbrev pub ListingIn : Register → List ℕ → ℕ → List ℕ → Type 0
ListingIn R room n after = (l : List ℕ) × IsListing R l × Written l room n after

abbrev pub ListingShort : List ℕ → Register → Type 0
ListingShort room R = (l : List ℕ) × IsListing R l × (length room < length l)

-- the listing of the register, in a room that is long enough; "room beyond it stays as found"
abbrev pub TextListing : (text : List ℕ) → List ℕ → Answer → List ℕ → Type 0
TextListing text room = OnText text (λ R. Short (ListingShort room R)) (λ R. ListingIn R room) room
