-- One line of the text: how long it is, and that it is put piece by piece.
use mathlib.Core.List.{append_assoc, List, [], ◌∷◌, ◌++◌}
use mathlib.Core.Path.{subst, sym, ◌≡◌}
use Prim.Native.Nat.{ℕ, ◌+◌, ◌≤◌}
use native.Mathlib.Omega.{arith}
use lib.ListN.{length, length-append}
use Rattle.register.specs.Number.{number_bytes}
use Rattle.room_write.specs.Writing.{RoomFor, Put}
use Rattle.register_write.specs.Copied.{mark_end, statement_bytes, objection_bytes}
use Rattle.register.proofs.Number.{number_small}
use Rattle.room_write.proofs.Writing.{put_behind, fits_before}

pub statement_length : (number mark : ℕ) → length (statement_bytes number mark) ≡ length (number_bytes number) + 5
statement_length number mark = omega (arith, length-append (number_bytes number) (mark_end mark))

pub objection_length : (objector target : ℕ) → length (objection_bytes objector target) ≡ length (number_bytes objector) + length
    (number_bytes target) + 4
objection_length objector target =
    omega (
      arith,
      length-append (number_bytes objector) (9 ∷ (number_bytes target ++ (10 ∷ []))),
      length-append (number_bytes target) (10 ∷ []),
    )

pub statement_small : (number mark : ℕ) → length (statement_bytes number mark) ≤ 34
statement_small number mark = omega (arith, statement_length number mark, number_small number)

pub objection_small : (objector target : ℕ) → length (objection_bytes objector target) ≤ 34
objection_small objector target =
    omega (arith, objection_length objector target, number_small objector, number_small target)

objection_pieces : (y x : ℕ)
    → (((((79 ∷ 9 ∷ []) ++ number_bytes y) ++ (9 ∷ [])) ++ number_bytes x) ++ (10 ∷ [])) ≡ objection_bytes y x
objection_pieces y x = simp append_assoc

module _ (room : List ℕ) (at : ℕ) where
  pub statement_put : (number mark : ℕ) {e₁ e₂ e₃ : ℕ} {r₁ r₂ r₃ : List ℕ} → RoomFor room at (statement_bytes number mark)
      → Put room at (83 ∷ 9 ∷ []) e₁ r₁ → Put r₁ e₁ (number_bytes number) e₂ r₂ → Put r₂ e₂ (mark_end mark) e₃ r₃
      → Put room at (statement_bytes number mark) e₃ r₃
  statement_put number mark h a b c =
      let p₂ : List ℕ = (83 ∷ 9 ∷ []) ++ number_bytes number in
      put_behind room at p₂ (mark_end mark) h
      (put_behind room at (83 ∷ 9 ∷ []) (number_bytes number) (fits_before room at p₂ (mark_end mark) h) a b) c

  pub objection_put : (y x : ℕ) {e₁ e₂ e₃ e₄ e₅ : ℕ} {r₁ r₂ r₃ r₄ r₅ : List ℕ} → RoomFor room at (objection_bytes y x)
      → Put room at (79 ∷ 9 ∷ []) e₁ r₁ → Put r₁ e₁ (number_bytes y) e₂ r₂ → Put r₂ e₂ (9 ∷ []) e₃ r₃
      → Put r₃ e₃ (number_bytes x) e₄ r₄ → Put r₄ e₄ (10 ∷ []) e₅ r₅ → Put room at (objection_bytes y x) e₅ r₅
  objection_put y x {e₅ = e} {r₅ = r} h a b c d f =
      let p₁ : List ℕ = 79 ∷ 9 ∷ [] in
      let p₂ : List ℕ = p₁ ++ number_bytes y in
      let p₃ : List ℕ = p₂ ++ (9 ∷ []) in
      let p₄ : List ℕ = p₃ ++ number_bytes x in
      let h₅ : RoomFor room at (p₄ ++ (10 ∷ [])) = subst (RoomFor room at) (sym (objection_pieces y x)) h in
      let h₄ : RoomFor room at p₄ = fits_before room at p₄ (10 ∷ []) h₅ in
      let h₃ : RoomFor room at p₃ = fits_before room at p₃ (number_bytes x) h₄ in
      let h₂ : RoomFor room at p₂ = fits_before room at p₂ (9 ∷ []) h₃ in
      let tab-put = put_behind room at p₂ (9 ∷ []) h₃ (put_behind room at p₁ (number_bytes y) h₂ a b) c in
      let target-put = put_behind room at p₃ (number_bytes x) h₄ tab-put d in
      subst (λ u. Put room at u e r) (objection_pieces y x) (put_behind room at p₄ (10 ∷ []) h₅ target-put f)
