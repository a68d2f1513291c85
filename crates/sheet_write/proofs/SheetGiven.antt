-- From a sheet that is filled to what is promised of the rooms.
use mathlib.Core.List.{List, ◌++◌}
use mathlib.Core.Path.{refl, sym, ap, ◌≡◌}
use Prim.Native.Nat.{ℕ, ◌≤◌}
use native.Mathlib.Omega.{arith}
use lib.ListN.{length, drop}
use Rattle.game.specs.Book.{Book}
use Rattle.game.proofs.Objection.{label_low}
use Rattle.std.specs.Prelude.{Ok}
use Rattle.sheet.specs.Sheet.{codes, bytes_for, SoundSheet}
use Rattle.sheet_code.specs.SheetParts.{LabelsOf, Codable, Filled}
use Rattle.sheet_code.proofs.SheetLaws.{filled_sheet}
use Rattle.promises.specs.SheetCalls.{SheetIn}
use Rattle.sheet_write.specs.SheetWrite.{SheetUpdated}
use Rattle.answer.proofs.Rooms.{whole_room}

module _ (B : Book) (labels : List ℕ) (of : LabelsOf B (length labels) labels) where
  -- a sheet can be made of them
  pub codable : length labels ≤ 1024 → (totals : List ℕ) → codes ≤ length totals → Codable (length labels) labels totals
  codable few totals room = record {
    few = few;
    labels_room = omega arith;
    totals_room = room;
    small = λ x h. let (v, m, e) = of.each x h in omega (arith, e, label_low v);
  }

  -- what is given of a fresh sheet, and of an update
  module _ (room totals : List ℕ) where
    pub sheet_in_lem : (sheet after : List ℕ) → Filled (length labels) labels sheet totals after
        → bytes_for (length labels) ≤ length room
        → SheetIn B (room, totals) (bytes_for (length labels)) (sheet ++ drop (bytes_for (length labels)) room, after)
    sheet_in_lem sheet after f fits =
        let e : bytes_for (length labels) ≡ length sheet = sym f.size in (
          sheet,
          filled_sheet B (length labels) labels sheet totals after of f,
          (e, omega (arith, e), ap (λ (k : ℕ). sheet ++ drop k room) e),
          rw of.size f.counted,
        )

    pub updated : (sheet after : List ℕ) → SoundSheet (length labels) room totals
        → Filled (length labels) labels sheet totals after → SheetUpdated B (room, totals) (Ok (length sheet)) (sheet, after)
    updated sheet after s f = (
      rw of.size s,
      (
        sheet,
        filled_sheet B (length labels) labels sheet totals after of f,
        (refl, omega (arith, s.size, f.size), sym (whole_room sheet room (omega (arith, s.size, f.size)))),
        rw of.size f.counted,
      ),
    )
