-- The promise of a mended register whose text lost nothing but objections by unknown numbers: "listing those numbers, with any
-- marks and any objections against them, and putting back each dropped objection once and the old marks". Such a book is a
-- meaning, so no limit binds it, and as it has an objection or has it not, none is put back twice.
use Rattle.std.specs.Prelude.{List, map, ◌++◌, ◌⊎◌, ◌↔◌, ◌≡◌, ℕ, ◌+◌, ◌<◌, eqb, T, length, get_or}
use Rattle.game.specs.Book.{Book}
use Rattle.register.specs.Lines.{mark_number}
use Rattle.register.specs.declared.StatementLine.{StatementLine}
use Rattle.register.specs.declared.ObjectionLine.{ObjectionLine}
use Rattle.register.specs.Register.{Issued, numbers}
use Rattle.mend.specs.TextLines.{TextLine, ObjectionAt}
use Rattle.mend.specs.Fate.{kept}
use Rattle.mend.specs.Mended.{fates, mended}
use Rattle.mend.specs.Staying.{statements_staying}

-- "If only objections by unknown numbers against listed ones were dropped and no line moved"
abbrev pub Restorable : List TextLine → Type 0
Restorable ls =
    (k : ℕ) → k < length ls → (get_or (fates ls) k kept ≡ kept)
    ⊎ ((o : ObjectionLine) × ObjectionAt ls k o × (¬ Issued (mended ls) o.objector) × Issued (mended ls) o.target)

-- F has the listed statements, then one for each unknown number. The listed ones have the text's own marks, and the text's
-- objections against them, kept or dropped; of the others nothing is said.
pub record Restored (ls : List TextLine) (F : Book) : Type 0 where
  pub new : List ℕ
  pub new_once : (i j : ℕ) → i < j → j < length new → get_or new i 0 ≡ get_or new j 0 → ⊥
  pub new_unknown : (i : ℕ) → i < length new → ¬ Issued (mended ls) (get_or new i 0)
  pub new_objects : (i : ℕ) → i < length new → (k : ℕ) × (o : ObjectionLine) × ObjectionAt ls k o × (o.objector ≡ get_or new i 0)
  pub new_all : (k : ℕ) (o : ObjectionLine) → ObjectionAt ls k o → ¬ Issued (mended ls) o.objector
      → (i : ℕ) × (i < length new) × (get_or new i 0 ≡ o.objector)
  pub size : F.size ≡ length (numbers (mended ls)) + length new
  pub marks : (x : ℕ) → x < length (numbers (mended ls))
      → F.unread x ≡ eqb (get_or (map (λ (st : StatementLine). mark_number st.mark) (statements_staying ls (fates ls))) x 0) 1
  pub objections : (y x : ℕ) → y < F.size → x < length (numbers (mended ls)) → T (F.objects y x) ↔ ((k : ℕ)
      × (o : ObjectionLine) × ObjectionAt ls k o × (o.objector ≡ get_or (numbers (mended ls) ++ new) y 0)
      × (o.target ≡ get_or (numbers (mended ls) ++ new) x 0))
