-- Not for callers of the product: how long a listing can be, whether there is room for it, and what is promised of one register.
use Rattle.std.specs.Prelude.{Bool, true, false, List, ℕ, ◌≤◌, ◌<◌, length}
use Rattle.register.specs.Register.{Register}
use Rattle.listing.specs.Listing.{IsListing}
use Rattle.answer.specs.Answer.{Promised, Short}
use Rattle.answer.specs.Answer.{Answer}
use Rattle.promises.specs.ListingCalls.{ListingShort, ListingIn}

-- Not for callers: no listing of the register is longer than the longest; whether so many bytes are room for it.
abbrev pub Bounded : Register → Type 0
Bounded R = (l : List ℕ) → IsListing R l → length l ≤ 131072

abbrev pub HasRoom : Register → (room : ℕ) → Bool → Type 0
HasRoom R room true = (l : List ℕ) → IsListing R l → length l ≤ room
HasRoom R room false = (l : List ℕ) × IsListing R l × (room < length l)

-- Not for callers: the listing is written, or there is too little room for it.
abbrev pub ListingWritten : Register → List ℕ → Answer → List ℕ → Type 0
ListingWritten R room a after = Promised (Short (ListingShort room R)) (ListingIn R room) room a after
