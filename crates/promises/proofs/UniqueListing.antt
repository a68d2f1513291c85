-- The promise of the listing leaves one answer and one content of the room: `unique_text_listing`.
use mathlib.Core.List.{List}
use mathlib.Core.Path.{ap, ◌≡◌}
use Prim.Native.Nat.{ℕ}
use native.Mathlib.Omega.{arith}
use lib.ListN.{length}
use Rattle.register.specs.Register.{Register}
use Rattle.listing.proofs.Listing.{listing_once}
use Rattle.answer.specs.Answer.{Short}
use Rattle.answer.specs.Answer.{Answer}
use Rattle.answer.proofs.Rooms.{written_unique}
use Rattle.answer.proofs.Promises.{short_once}
use Rattle.answer.proofs.Inputs.{on_unique}
use Rattle.promises.proofs.OnText.{text_apart}
use Rattle.promises.specs.ListingCalls.{TextListing, ListingShort, ListingIn}

module _ (s : List ℕ) where
  pub unique_text_listing : (room : List ℕ) (a a' : Answer) (after after' : List ℕ) → TextListing s room a after
      → TextListing s room a' after' → (a ≡ a') × (after ≡ after')
  unique_text_listing room =
      on_unique (text_apart s) (λ R. Short (ListingShort room R)) (λ R. short_once (ListingShort room R)) (λ R. ListingIn R room)
      (λ R t r n after p g. fits R n after g p.0) (λ R t. same R) room
    where
      fits : (R : Register) (n : ℕ) (after : List ℕ) → ListingIn R room n after → ¬ ListingShort room R
      fits R n after (l, is, (c, h, e)) (k, isn, t) = omega (arith, h, t, ap length (listing_once R k l isn is))

      same : (R : Register) (n n' : ℕ) (after after' : List ℕ) → ListingIn R room n after → ListingIn R room n' after' → (n ≡ n')
          × (after ≡ after')
      same R n n' after after' (l, is, w) (l', is', w') =
          written_unique l l' room n n' after after' (listing_once R l l' is is') w w'
