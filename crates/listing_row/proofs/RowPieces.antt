-- Rows put into a room piece by piece.
use mathlib.Core.List.{List, [], ◌∷◌, ◌++◌}
use mathlib.Core.Path.{subst, sym}
use Prim.Native.Nat.{ℕ}
use Rattle.game.specs.Account.{Account}
use Rattle.register.specs.Texts.{decimal}
use Rattle.register.specs.Number.{number_bytes}
use Rattle.room_write.specs.Writing.{RoomFor, Put}
use Rattle.listing.specs.Rows.{numbers_row, statement_row, account_fields, objection_row}
use Rattle.room_write.proofs.Writing.{fits_before, put_behind}
use Rattle.listing.proofs.Rows.{numbers_pieces, statement_pieces, objection_pieces}

module _ (room : List ℕ) (at : ℕ) where
  pub numbers_put : (word : List ℕ) (n m : ℕ) {e₀ e₁ e₂ e₃ e₄ e₅ : ℕ} {r₀ r₁ r₂ r₃ r₄ r₅ : List ℕ}
      → RoomFor room at (numbers_row word n m) → Put room at word e₀ r₀ → Put r₀ e₀ (9 ∷ []) e₁ r₁ → Put r₁ e₁ (decimal n) e₂ r₂
      → Put r₂ e₂ (9 ∷ []) e₃ r₃ → Put r₃ e₃ (decimal m) e₄ r₄ → Put r₄ e₄ (10 ∷ []) e₅ r₅
      → Put room at (numbers_row word n m) e₅ r₅
  numbers_put word n m {e₅ = e} {r₅ = r} h o a b c d f =
      let p₁ : List ℕ = word ++ (9 ∷ []) in
      let p₂ : List ℕ = p₁ ++ decimal n in
      let p₃ : List ℕ = p₂ ++ (9 ∷ []) in
      let p₄ : List ℕ = p₃ ++ decimal m in
      let h₅ : RoomFor room at (p₄ ++ (10 ∷ [])) = subst (RoomFor room at) (sym (numbers_pieces word n m)) h in
      let h₄ : RoomFor room at p₄ = fits_before room at p₄ (10 ∷ []) h₅ in
      let h₃ : RoomFor room at p₃ = fits_before room at p₃ (decimal m) h₄ in
      let h₂ : RoomFor room at p₂ = fits_before room at p₂ (9 ∷ []) h₃ in
      let h₁ : RoomFor room at p₁ = fits_before room at p₁ (decimal n) h₂ in
      subst (λ u. Put room at u e r) (numbers_pieces word n m)
      (put_behind room at p₄ (10 ∷ []) h₅ (put_behind room at p₃ (decimal m) h₄ (put_behind room at p₂ (9 ∷ []) h₃
      (put_behind room at p₁ (decimal n) h₂ (put_behind room at word (9 ∷ []) h₁ o a) b) c) d) f)

  pub statement_put : (number : ℕ) (told : Account) {e₁ e₂ e₃ e₄ : ℕ} {r₁ r₂ r₃ r₄ : List ℕ}
      → RoomFor room at (statement_row number told)
      → Put room at (number_bytes number) e₁ r₁ → Put r₁ e₁ (9 ∷ []) e₂ r₂ → Put r₂ e₂ (account_fields told) e₃ r₃
      → Put r₃ e₃ (10 ∷ []) e₄ r₄ → Put room at (statement_row number told) e₄ r₄
  statement_put number told {e₄ = e} {r₄ = r} h a b c d =
      let p₁ : List ℕ = number_bytes number in
      let p₂ : List ℕ = p₁ ++ (9 ∷ []) in
      let p₃ : List ℕ = p₂ ++ account_fields told in
      let h₄ : RoomFor room at (p₃ ++ (10 ∷ [])) = subst (RoomFor room at) (sym (statement_pieces number told)) h in
      let h₃ : RoomFor room at p₃ = fits_before room at p₃ (10 ∷ []) h₄ in
      let h₂ : RoomFor room at p₂ = fits_before room at p₂ (account_fields told) h₃ in
      let fields-put = put_behind room at p₂ (account_fields told) h₃ (put_behind room at p₁ (9 ∷ []) h₂ a b) c in
      subst (λ u. Put room at u e r) (statement_pieces number told) (put_behind room at p₃ (10 ∷ []) h₄ fields-put d)

  pub objection_put : (y x : ℕ) (told : Account) {e₁ e₂ e₃ e₄ e₅ e₆ : ℕ} {r₁ r₂ r₃ r₄ r₅ r₆ : List ℕ}
      → RoomFor room at (objection_row y x told) → Put room at (number_bytes y) e₁ r₁ → Put r₁ e₁ (9 ∷ []) e₂ r₂
      → Put r₂ e₂ (number_bytes x) e₃ r₃
      → Put r₃ e₃ (9 ∷ []) e₄ r₄ → Put r₄ e₄ (account_fields told) e₅ r₅ → Put r₅ e₅ (10 ∷ []) e₆ r₆
      → Put room at (objection_row y x told) e₆ r₆
  objection_put y x told {e₆ = e} {r₆ = r} h a b c d f g =
      let p₁ : List ℕ = number_bytes y in
      let p₂ : List ℕ = p₁ ++ (9 ∷ []) in
      let p₃ : List ℕ = p₂ ++ number_bytes x in
      let p₄ : List ℕ = p₃ ++ (9 ∷ []) in
      let p₅ : List ℕ = p₄ ++ account_fields told in
      let h₆ : RoomFor room at (p₅ ++ (10 ∷ [])) = subst (RoomFor room at) (sym (objection_pieces y x told)) h in
      let h₅ : RoomFor room at p₅ = fits_before room at p₅ (10 ∷ []) h₆ in
      let h₄ : RoomFor room at p₄ = fits_before room at p₄ (account_fields told) h₅ in
      let h₃ : RoomFor room at p₃ = fits_before room at p₃ (9 ∷ []) h₄ in
      let h₂ : RoomFor room at p₂ = fits_before room at p₂ (number_bytes x) h₃ in
      let target-put = put_behind room at p₂ (number_bytes x) h₃ (put_behind room at p₁ (9 ∷ []) h₂ a b) c in
      let fields-put = put_behind room at p₄ (account_fields told) h₅ (put_behind room at p₃ (9 ∷ []) h₄ target-put d) f in
      subst (λ u. Put room at u e r) (objection_pieces y x told) (put_behind room at p₅ (10 ∷ []) h₆ fields-put g)
