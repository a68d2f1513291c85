-- From what the library promises of a listing to what the program prints.
use mathlib.Core.List.{List}
use mathlib.Core.Logic.{inl, inr, ⊎_elim}
use Prim.Native.Nat.{ℕ, ◌≤◌}
use native.Mathlib.Omega.{arith}
use lib.ListN.{length, take}
use Rattle.answer.specs.declared.Refusal.{Refusal}
use Rattle.register.specs.Register.{Register}
use Rattle.register.specs.Reads.{Accepts}
use Rattle.listing.specs.Listing.{IsListing}
use Rattle.listing.proofs.Listing.{listing_short}
use Rattle.answer.specs.Answer.{Short, RefusedOn, GivenOn}
use Rattle.answer.specs.Answer.{Answer}
use Rattle.promises.specs.OnText.{TextRefused}
use Rattle.promises.specs.ListingCalls.{ListingShort, TextListing, ListingIn}
use Rattle.program_stream.specs.PutAnswer.{PutOf}
use Rattle.program_stream.proofs.PutAnswer.{put_shown}
use Rattle.promises.specs.Programs.{Prints}
use Rattle.promises.proofs.Programs.{fault_printed}

module _ (s room : List ℕ) (long : 131072 ≤ length room) where
  -- a room of 131,072 bytes is never too short
  refused_text : (r : Refusal) → RefusedOn (Accepts s) (TextRefused s) (λ R. Short (ListingShort room R)) r → TextRefused s r
  refused_text r (inl p) = p
  refused_text r (inr (R, a, ((l, is, short), e))) = absurd (omega (arith, long, short, listing_short s R l a is))

  pub prints : (a : Answer) (after : List ℕ) (size : ℕ) (put : List ℕ) → TextListing s room a after → PutOf a after size put
      → (size ≤ length put) × Prints s (take size put)
  prints a after size put p w =
      let (fits, shown) = put_shown (RefusedOn (Accepts s) (TextRefused s) (λ R. Short (ListingShort room R)))
      (GivenOn (Accepts s) (λ R. ListingIn R room)) (λ l. (R : Register) × Accepts s R × IsListing R l) room
      (λ n after (R, a, (l, is, w)). (l, (R, a, is), w)) a after size put
      p w in
      (fits, ⊎_elim inl (λ (r, p, e). inr (fault_printed s (take size put) r (refused_text r p) e)) shown)
