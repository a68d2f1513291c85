-- The report put into a room: a row piece by piece, and that there is room for all rows.
use mathlib.Core.List.{List, [], ◌∷◌, ◌++◌}
use mathlib.Core.Path.{ap, refl, subst, sym}
use Prim.Native.Nat.{ℕ, ◌≤◌}
use native.Mathlib.Omega.{arith}
use lib.ListN.{length}
use Rattle.register.specs.Texts.{rows_to, decimal}
use Rattle.room_write.specs.Writing.{RoomFor, Put}
use Rattle.mend.proofs.ReportRow.{row_pieces}
use Rattle.room_write.proofs.Writing.{fits_before, put_behind}
use Rattle.mend_report.specs.NumberedReport.{word_of, fate_field, numbered_row, numbered_report}
use Rattle.mend_report.proofs.NumberedReport.{row_at, report_all}

module _ (fates : List ℕ) where
  pub report_fits : (room : List ℕ) → length (numbered_report fates) ≤ length room
      → RoomFor room 0 (rows_to (length fates) (row_at fates))
  report_fits room h = omega (arith, ap length (report_all fates (length fates) refl))

module _ (line fate : ℕ) where
  pub pieces_put : (room : List ℕ) (at : ℕ) {e₁ e₂ e₃ e₄ : ℕ} {r₁ r₂ r₃ r₄ : List ℕ} → RoomFor room at (numbered_row line fate)
      → Put room at (decimal line) e₁ r₁ → Put r₁ e₁ (fate_field fate) e₂ r₂ → Put r₂ e₂ (decimal fate) e₃ r₃
      → Put r₃ e₃ (10 ∷ []) e₄ r₄ → Put room at (numbered_row line fate) e₄ r₄
  pieces_put room at {e₄ = e} {r₄ = r} h a b c d =
      let p₁ : List ℕ = decimal line in
      let p₂ : List ℕ = p₁ ++ fate_field fate in
      let p₃ : List ℕ = p₂ ++ decimal fate in
      let h₄ : RoomFor room at (p₃ ++ (10 ∷ [])) = subst (RoomFor room at) (sym (row_pieces line (word_of fate) fate)) h in
      let h₃ : RoomFor room at p₃ = fits_before room at p₃ (10 ∷ []) h₄ in
      let h₂ : RoomFor room at p₂ = fits_before room at p₂ (decimal fate) h₃ in
      subst (λ u. Put room at u e r) (row_pieces line (word_of fate) fate) (put_behind room at p₃ (10 ∷ []) h₄
      (put_behind room at p₂ (decimal fate) h₃
      (put_behind room at p₁ (fate_field fate) h₂ a b) c) d)
