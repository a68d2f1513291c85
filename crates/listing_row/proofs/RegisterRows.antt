-- A register that is lent as one value, with its own labels: it is one whose rows can be told, and the kind that its labels give
-- to an entry makes the entry's row.
use mathlib.Core.Path.{refl, ◌≡◌}
use Prim.Native.Nat.{ℕ, ◌<◌}
use lib.ListN.{get_or, length}
use Rattle.game.specs.Account.{kind_account}
use Rattle.game.specs.Objection.{OfKind}
use Rattle.game.specs.declared.Kind.{Kind}
use Rattle.lists.specs.PairsBook.{pairs_book}
use Rattle.label_solve.specs.AreLabelled.{AreLabelled}
use Rattle.listing.specs.Rows.{objection_row}
use Rattle.register_solve.specs.declared.labelled_register.LabelledRegister.{LabelledRegister}
use Rattle.listing_row.specs.RegisterRows.{entry_row}
use Rattle.listing_row.specs.RowsAt.{Listable}
use Rattle.listing_row.proofs.RowTold.{row_told}

module _ (r : LabelledRegister) (own : AreLabelled r.labelled) where
  pub listable : Listable r.numbers.now r.labelled.pairs.marks.now r.labelled.pairs.objectors.now r.labelled.pairs.targets.now
      r.labelled.labels.now r.labelled.lengths.now
  listable = record {
    handed = r.labelled.pairs.handed;
    numbered = r.numbered;
    labels_room = r.labelled.labels_room;
    lengths_room = r.labelled.lengths_room;
    labelled = own;
  }

  pub entry_told : (k : ℕ) (κ : Kind) → k < length r.labelled.pairs.objectors.now
      → OfKind (pairs_book r.labelled.pairs) (get_or r.labelled.pairs.objectors.now k 0)
      (get_or r.labelled.pairs.targets.now k 0) κ
      → objection_row (get_or r.numbers.now (get_or r.labelled.pairs.objectors.now k 0) 0)
      (get_or r.numbers.now (get_or r.labelled.pairs.targets.now k 0) 0) (kind_account κ) ≡ entry_row r k
  entry_told k κ h of_kind = row_told _ _ _ _ _ _ listable k _ _ κ h refl refl of_kind
