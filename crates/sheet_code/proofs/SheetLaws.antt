-- Whole sheets in the code: when one is sound, by its counts, and that a sheet made from the labels of a book is the book's.
use mathlib.Core.Bool.{Bool, true, false}
use mathlib.Core.List.{List}
use mathlib.Core.Path.{refl, sym, ap, ◌≡◌, ◌∙◌}
use Prim.Native.Nat.{ℕ, ◌<◌}
use native.Mathlib.Omega.{arith}
use lib.ListN.{get_or, length}
use Rattle.game.specs.Book.{Book}
use Rattle.game.specs.Account.{verdict_account}
use Rattle.game.specs.Questions.{Decides}
use Rattle.answer.specs.Answer.{Begins}
use Rattle.sheet.specs.Sheet.{SoundSheet, bytes_for, codes, total, IsSheet}
use Rattle.sheet_code.specs.SheetParts.{Tallied, Spare, Own, Coded, Filled, LabelsOf}
use Rattle.sheet_code.proofs.Totals.{used_none, none_used}

-- what is left to ask of a sheet that has the size and no spare bit set, once its codes are counted
module _ (n : ℕ) (sheet totals counts : List ℕ) (tallied : Tallied sheet n counts) where
  pub three_unsound : (get_or counts 3 0 ≡ 0 → ⊥) → ¬ SoundSheet n sheet totals
  three_unsound f s = f (tallied 3 (omega arith) ∙ used_none sheet n s.used)

  pub sound_by_totals : length sheet ≡ bytes_for n → Spare n sheet → get_or counts 3 0 ≡ 0 → (b : Bool)
      → Decides (Own counts totals) b → Decides (SoundSheet n sheet totals) b
  sound_by_totals size spare none true own = record {
    size = size;
    used = none_used sheet n (sym (tallied 3 (omega arith)) ∙ none);
    spare = spare;
    own = λ c h l. own c h l ∙ tallied c (omega arith);
  }
  sound_by_totals size spare none false f = λ s. f (λ c h l. s.own c h (omega (arith, h, l)) ∙ sym (tallied c (omega arith)))

-- a sheet that had no spare bit set has none after its codes are set
pub filled : (n : ℕ) (labels old sheet totals after : List ℕ) → ((k : ℕ) → get_or sheet k 0 < 256) → length sheet ≡ bytes_for n
    → Spare n old → Coded n labels old sheet → Begins codes (λ c e. e ≡ total sheet n c) totals after
    → Filled n labels sheet totals after
filled n labels old sheet totals after bytes size spare coded counted = record {
  bytes = bytes;
  size = size;
  each = coded.each;
  spare = λ x h. coded.rest x h ∙ spare x h;
  counted = counted;
}

-- what is made of a book's labels is its sheet
pub filled_sheet : (B : Book) (n : ℕ) (labels sheet totals after : List ℕ) → LabelsOf B n labels
    → Filled n labels sheet totals after → IsSheet B sheet
filled_sheet B n labels sheet totals after of f = record {
  bytes = f.bytes;
  size = f.size ∙ ap bytes_for (sym of.size);
  each = λ x h. let (v, m, e) = of.each x (omega (arith, of.size)) in
      (verdict_account v, (v, m, refl), f.each x (omega (arith, of.size)) ∙ e);
  spare = λ x h. f.spare x (omega (arith, of.size));
}
