-- The last promise of mending, shown of one text: it meets `Restorable` with a line dropped; its mended register; a book that
-- puts the line back; and what falls and stands in both.
use mathlib.Core.List.{List, [], ◌∷◌}
use mathlib.Core.Logic.{inl, inr, ◌↔◌}
use mathlib.Core.Path.{refl, ap, sym, subst, ◌≡◌}
use Prim.Native.Nat.{ℕ, zero, suc, ◌≤◌, ◌<◌}
use native.Mathlib.Omega.{arith}
use lib.Dec.{T, eqb}
use lib.ListN.{get_or}
use Rattle.game.specs.Book.{Book, any, all, book_of}
use Rattle.game.specs.Label.{Means, falls, stands}
use Rattle.game.specs.Rules.{stands_within, falls_within}
use Rattle.game.proofs.Verdict.{verdict, verdict_by, verdict_means}
use Rattle.register.specs.Texts.{decimal, decimal_in}
use Rattle.register.specs.Number.{number_bytes}
use Rattle.register.specs.declared.Mark.TheVariants.{Read, Unread}
use Rattle.register.specs.declared.ObjectionLine.{ObjectionLine}
use Rattle.register.specs.declared.Line.TheVariants.{Statement, Objection}
use Rattle.register.specs.Register.{Register, Issued, book, place_of}
use Rattle.register.proofs.Number.{number_test}
use Rattle.register.proofs.Guess.{ahead, formed_test, begins_test}
use Rattle.mend.specs.TextLines.{TextLine, good, ObjectionAt, LinesOf}
use Rattle.mend.specs.Fate.{kept, dropped, unknown_number}
use Rattle.mend.specs.Mended.{settle_statement, settle_objection, with_statements, with_objections, fates_from, fates, mended}
use Rattle.mend.specs.Staying.{statements_staying}
use Rattle.mend.specs.Restored.{Restorable, Restored}
use Rattle.mend.proofs.Restored.{restored_holds, objects_at, objects_in, lines_object}
use Rattle.examples.specs.Table.{ascii}
use Rattle.examples.proofs.MendTable.{lines_test, lines_tested}
use Rattle.examples.proofs.Text.{same}

-- 9 is not on the register, so its objection to 1 goes, and 1 is marked unread
abbrev text : List ℕ
text = ascii "S\t1\tR\nS\t2\tR\nO\t2\t1\nO\t9\t1\n"

unfoldable pub lines : List TextLine
lines =
    good (Statement (record { number = 1; mark = Read }))
    ∷ good (Statement (record { number = 2; mark = Read }))
    ∷ good (Objection (record { objector = 2; target = 1 }))
    ∷ good (Objection (record { objector = 9; target = 1 }))
    ∷ []

lines_are : LinesOf text lines
unfolding lines ascii same lines_test ahead formed_test begins_test number_test number_bytes decimal decimal_in
lines_are = lines_tested text lines tt

unfoldable pub left : Register
left = record {
  statements = record { number = 1; mark = Unread } ∷ record { number = 2; mark = Read } ∷ [];
  objections = record { objector = 2; target = 1 } ∷ [];
}

left_is : mended lines ≡ left
unfolding lines left settle_statement settle_objection with_statements with_objections any
left_is = refl

fates_are : fates lines ≡ kept ∷ kept ∷ kept ∷ dropped unknown_number ∷ []
unfolding lines settle_statement settle_objection with_statements with_objections fates_from any
fates_are = refl

-- 9 is listed behind 1 and 2, and read; 2 and 9 object to 1, which is read again
unfoldable pub back : Book
back = book_of (0 ∷ (0 ∷ (0 ∷ []))) (1 ∷ (2 ∷ [])) (0 ∷ (0 ∷ []))

nine_unknown : ¬ Issued left 9
unfolding left
nine_unknown (zero, h, e) = omega (arith, e)
nine_unknown (suc zero, h, e) = omega (arith, e)
nine_unknown (suc (suc i), h, e) = omega (arith, h)

restorable : Restorable lines
unfolding lines left settle_statement settle_objection with_statements with_objections fates_from any
restorable zero h = inl refl
restorable (suc zero) h = inl refl
restorable (suc (suc zero)) h = inl refl
restorable (suc (suc (suc zero))) h =
    inr (record { objector = 9; target = 1 }, (omega arith, refl), nine_unknown, (0, omega arith, refl))
restorable (suc (suc (suc (suc k)))) h = absurd (omega (arith, h))

-- an objection of the text whose objector is unknown is that of 9
only_nine : (k : ℕ) (o : ObjectionLine) → ObjectionAt lines k o → ¬ Issued left o.objector → 9 ≡ o.objector
unfolding lines left
only_nine zero o (h, e) n = let z : ◌≡◌ {A = ℕ} 0 1 = cc in absurd (omega arith)
only_nine (suc zero) o (h, e) n = let z : ◌≡◌ {A = ℕ} 0 1 = cc in absurd (omega arith)
only_nine (suc (suc zero)) o (h, e) n =
    let z : record { objector = 2; target = 1 } ≡ o = cc in
    absurd (n (1, omega arith, ap (λ (p : ObjectionLine). p.objector) z))
only_nine (suc (suc (suc zero))) o (h, e) n =
    let z : record { objector = 9; target = 1 } ≡ o = cc in ap (λ (p : ObjectionLine). p.objector) z
only_nine (suc (suc (suc (suc k)))) o (h, e) n = absurd (omega (arith, h))

-- the book has the objections of the text
put_back : (y x : ℕ) → y < 3 → x < 2
    → back.objects y x ≡ objects_in lines (get_or (1 ∷ (2 ∷ (9 ∷ []))) y 0) (get_or (1 ∷ (2 ∷ (9 ∷ []))) x 0)
unfolding back lines book_of any objects_in objects_at
put_back zero zero h l = refl
put_back zero (suc zero) h l = refl
put_back zero (suc (suc x)) h l = absurd (omega (arith, l))
put_back (suc zero) zero h l = refl
put_back (suc zero) (suc zero) h l = refl
put_back (suc zero) (suc (suc x)) h l = absurd (omega (arith, l))
put_back (suc (suc zero)) zero h l = refl
put_back (suc (suc zero)) (suc zero) h l = refl
put_back (suc (suc zero)) (suc (suc x)) h l = absurd (omega (arith, l))
put_back (suc (suc (suc y))) x h l = absurd (omega (arith, h))

restored : Restored lines back
unfolding lines left back book_of settle_statement settle_objection with_statements with_objections fates_from statements_staying
    any
restored = record {
  new = 9 ∷ [];
  new_once = λ i j h l e. omega (arith, h, l);
  new_unknown = unknown;
  new_objects = objects;
  new_all = λ k o at n. (0, omega arith, only_nine k o at n);
  size = refl;
  marks = marks;
  objections =
      λ y x h l. subst (λ b. T b ↔ Lines y x) (sym (put_back y x h l))
      (lines_object lines (get_or (1 ∷ (2 ∷ (9 ∷ []))) y 0) (get_or (1 ∷ (2 ∷ (9 ∷ []))) x 0));
}
  where
    Lines : ℕ → ℕ → Type 0
    Lines y x =
        (k : ℕ) × (o : ObjectionLine) × ObjectionAt lines k o × (o.objector ≡ get_or (1 ∷ (2 ∷ (9 ∷ []))) y 0)
        × (o.target ≡ get_or (1 ∷ (2 ∷ (9 ∷ []))) x 0)

    unknown : (i : ℕ) → i < 1 → ¬ Issued left (get_or (9 ∷ []) i 0)
    unknown zero h = nine_unknown
    unknown (suc i) h = absurd (omega (arith, h))

    objects : (i : ℕ) → i < 1 → (k : ℕ) × (o : ObjectionLine) × ObjectionAt lines k o × (o.objector ≡ get_or (9 ∷ []) i 0)
    objects zero h = (3, record { objector = 9; target = 1 }, (omega arith, refl), refl)
    objects (suc i) h = absurd (omega (arith, h))

    marks : (x : ℕ) → x < 2 → eqb (get_or (0 ∷ (0 ∷ (0 ∷ []))) x 0) 1 ≡ eqb (get_or (0 ∷ (0 ∷ [])) x 0) 1
    marks zero h = refl
    marks (suc zero) h = refl
    marks (suc (suc x)) h = absurd (omega (arith, h))

-- 1 falls in 1 turn and 2 stands in 0, though 1 is unread; and they still do once 9 is back
pub record Shown : Type 0 where
  pub is_text : LinesOf text lines
  pub is_left : mended lines ≡ left
  pub one_dropped : fates lines ≡ kept ∷ kept ∷ kept ∷ dropped unknown_number ∷ []
  pub is_restorable : Restorable lines
  pub is_restored : Restored lines back
  pub one_falls : Means (book (mended lines)) 0 (falls 1)
  pub two_stands : Means (book (mended lines)) 1 (stands 0)
  pub still_falls : (m : ℕ) × (m ≤ 1) × Means back 0 (falls m)
  pub still_stands : (m : ℕ) × (m ≤ 0) × Means back 1 (stands m)

one_falls : Means (book (mended lines)) 0 (falls 1)
unfolding lines settle_statement settle_objection with_statements with_objections any all book_of place_of verdict verdict_by
    stands_within falls_within
one_falls = verdict_means (book (mended lines)) 0 (omega arith)

two_stands : Means (book (mended lines)) 1 (stands 0)
unfolding lines settle_statement settle_objection with_statements with_objections any all book_of place_of verdict verdict_by
    stands_within falls_within
two_stands = verdict_means (book (mended lines)) 1 (omega arith)

pub restored_shown : Shown
unfolding lines settle_statement settle_objection with_statements with_objections any
restored_shown = record {
  is_text = lines_are;
  is_left = left_is;
  one_dropped = fates_are;
  is_restorable = restorable;
  is_restored = restored;
  one_falls = one_falls;
  two_stands = two_stands;
  still_falls = (restored_holds text lines lines_are restorable back restored 0 (omega arith)).0 1 one_falls;
  still_stands = (restored_holds text lines lines_are restorable back restored 1 (omega arith)).1 0 two_stands;
}
