-- The listing put into a room part by part.
use mathlib.Core.List.{List, append_assoc, ◌++◌}
use mathlib.Core.Path.{subst, sym}
use Prim.Native.Nat.{ℕ}
use lib.ListN.{length}
use Rattle.room_write.specs.Writing.{RoomFor, Put}
use Rattle.listing.specs.Rows.{header}
use Rattle.listing_write.specs.ListingParts.{whole, statement_part, objection_part}
use Rattle.room_write.proofs.Writing.{put_behind, fits_before}

-- the three parts, one behind the other
module _ (room nums objectors targets labels lengths : List ℕ) where
  pub whole_put : {e₁ e₂ e₃ : ℕ} {r₁ r₂ r₃ : List ℕ} → RoomFor room 0 (whole nums objectors targets labels lengths)
      → Put room 0 (header (length nums) (length objectors)) e₁ r₁ → Put r₁ e₁ (statement_part nums labels lengths) e₂ r₂
      → Put r₂ e₂ (objection_part nums objectors targets labels lengths) e₃ r₃
      → Put room 0 (whole nums objectors targets labels lengths) e₃ r₃
  unfolding whole
  whole_put {e₃ = e} {r₃ = r} h a b c =
      let p₁ : List ℕ = header (length nums) (length objectors) in
      let p₂ : List ℕ = statement_part nums labels lengths in
      let p₃ : List ℕ = objection_part nums objectors targets labels lengths in
      let h₃ : RoomFor room 0 ((p₁ ++ p₂) ++ p₃) = subst (RoomFor room 0) (sym (append_assoc p₁ p₂ p₃)) h in
      subst (λ u. Put room 0 u e r) (append_assoc p₁ p₂ p₃) (put_behind room 0 (p₁ ++ p₂) p₃ h₃
      (put_behind room 0 p₁ p₂ (fits_before room 0 (p₁ ++ p₂) p₃ h₃) a b) c)
