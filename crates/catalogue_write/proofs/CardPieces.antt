-- A card put piece by piece, and how long it is.
use mathlib.Core.List.{List, append_assoc, [], ◌∷◌, ◌++◌}
use mathlib.Core.Path.{subst, sym, ◌≡◌}
use Prim.Native.Nat.{ℕ, ◌+◌}
use native.Mathlib.Omega.{arith}
use lib.ListN.{length, length-append, get_or}
use Rattle.register.specs.Number.{number_bytes}
use Rattle.room_write.specs.Writing.{RoomFor, Put}
use Rattle.room_write.proofs.Writing.{put_behind, fits_before}
use Rattle.catalogue_write.specs.CatalogueRows.{fields_text, mark_tab, card_begin, card_text}

pub begin_length : (number mark : ℕ) → length (card_begin number mark) ≡ length (number_bytes number) + 4
begin_length number mark = omega (arith, length-append (number_bytes number) (mark_tab mark))

module _ (nums marks objectors targets : List ℕ) (x : ℕ) where
  pub card_length_lem : length (card_text nums marks objectors targets x) ≡ length
      (card_begin (get_or nums x 0) (get_or marks x 0)) +
      length (fields_text nums objectors targets x) + 1
  card_length_lem =
      omega (
        arith,
        length-append (card_begin (get_or nums x 0) (get_or marks x 0)) (fields_text nums objectors targets x ++ (10 ∷ [])),
        length-append (fields_text nums objectors targets x) (10 ∷ []),
      )

module _ (room : List ℕ) (at : ℕ) where
  pub begin_put : (number mark : ℕ) {e₁ e₂ e₃ : ℕ} {r₁ r₂ r₃ : List ℕ} → RoomFor room at (card_begin number mark)
      → Put room at (83 ∷ 9 ∷ []) e₁ r₁ → Put r₁ e₁ (number_bytes number) e₂ r₂ → Put r₂ e₂ (mark_tab mark) e₃ r₃
      → Put room at (card_begin number mark) e₃ r₃
  begin_put number mark h a b c =
      let p₂ : List ℕ = (83 ∷ 9 ∷ []) ++ number_bytes number in
      put_behind room at p₂ (mark_tab mark) h
      (put_behind room at (83 ∷ 9 ∷ []) (number_bytes number) (fits_before room at p₂ (mark_tab mark) h) a b) c

  pub card_put : (nums marks objectors targets : List ℕ) (x : ℕ) {e₁ e₂ e₃ : ℕ} {r₁ r₂ r₃ : List ℕ}
      → RoomFor room at (card_text nums marks objectors targets x)
      → Put room at (card_begin (get_or nums x 0) (get_or marks x 0)) e₁ r₁ → Put r₁ e₁ (fields_text nums objectors targets x) e₂
      r₂
      → Put r₂ e₂ (10 ∷ []) e₃ r₃ → Put room at (card_text nums marks objectors targets x) e₃ r₃
  card_put nums marks objectors targets x {e₃ = e} {r₃ = r} h a b c =
      let p₁ : List ℕ = card_begin (get_or nums x 0) (get_or marks x 0) in
      let p₂ : List ℕ = fields_text nums objectors targets x in
      let whole : (p₁ ++ p₂) ++ (10 ∷ []) ≡ card_text nums marks objectors targets x = append_assoc p₁ p₂ (10 ∷ []) in
      let fits : RoomFor room at ((p₁ ++ p₂) ++ (10 ∷ [])) = subst (RoomFor room at) (sym whole) h in
      subst (λ u. Put room at u e r) whole (put_behind room at (p₁ ++ p₂) (10 ∷ []) fits
      (put_behind room at p₁ p₂ (fits_before room at (p₁ ++ p₂) (10 ∷ []) fits) a b) c)
