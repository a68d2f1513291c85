-- Grouping the objections of a register leaves its book: the two are the same place by place. So every label and length, and
-- every objection's kind and length, are those of the old form, by the transfer law of `game`.
use mathlib.Core.List.{map}
use mathlib.Core.Logic.{◌↔◌}
use mathlib.Core.Path.{ap, sym, subst, ◌≡◌}
use Prim.Native.Nat.{ℕ, ◌<◌}
use native.Mathlib.Omega.{arith}
use lib.Dec.{T, eqb}
use lib.ListN.{length, get_or}
use Rattle.game.specs.Book.{Book, Listed, Objects, book_of}
use Rattle.game.specs.Label.{Verdict, Means}
use Rattle.game.specs.Objection.{OfKind}
use Rattle.game.specs.declared.Kind.{Kind}
use Rattle.game.proofs.Search.{same_test}
use Rattle.game.proofs.Transfer.{Same, same_means}
use Rattle.register.specs.Lines.{mark_number}
use Rattle.register.specs.declared.StatementLine.{StatementLine}
use Rattle.register.specs.Register.{Register, Valid, Has, numbers, marks_of, book}
use Rattle.register.proofs.Order.{numbers_counted, marks_counted}
use Rattle.register.proofs.BookNumbers.{objects_has, has_objects}
use Rattle.catalogue.specs.Regrouped.{grouped}
use Rattle.catalogue.proofs.Regrouped.{same_statements, grouped_valid, has_kept}

-- Two registers of the same statements, and the same objections by numbers, make the same book.
module _ (R Q : Register) (v : Valid R) (w : Valid Q) (statements : Q.statements ≡ R.statements)
    (has : (y x : ℕ) → Has Q y x ↔ Has R y x) where
  same_numbers : numbers Q ≡ numbers R
  same_numbers = ap (λ S. map (λ (st : StatementLine). st.number) S) statements

  same_marks : marks_of Q ≡ marks_of R
  same_marks = ap (λ S. map (λ (st : StatementLine). mark_number st.mark) S) statements

  numbered : (x : ℕ) → Listed (book Q) x → x < length (numbers R)
  unfolding book_of
  numbered x h = omega (arith, numbers_counted Q, marks_counted Q w, ap length same_numbers)

  by_numbers : (y x : ℕ)
      → Has Q (get_or (numbers Q) y 0) (get_or (numbers Q) x 0) ↔ Has R (get_or (numbers R) y 0) (get_or (numbers R) x 0)
  by_numbers y x =
      subst (λ ns. Has Q (get_or (numbers Q) y 0) (get_or (numbers Q) x 0) ↔ Has R (get_or ns y 0) (get_or ns x 0)) same_numbers
      (has (get_or (numbers Q) y 0) (get_or (numbers Q) x 0))

  objects : (y x : ℕ) → Listed (book Q) y → Listed (book Q) x → (book Q).objects y x ≡ (book R).objects y x
  unfolding book_of
  objects y x l h = same_test ((book Q).objects y x) ((book R).objects y x)
      (λ t. (has_objects R v y x (numbered y l) (numbered x h) ((by_numbers y x).0 (objects_has Q w y x (l, t)))).1)
      (λ t. (has_objects Q w y x (rw same_numbers (numbered y l)) (rw same_numbers (numbered x h))
      ((by_numbers y x).1 (objects_has R v y x (listed y l, t)))).1)
    where
      listed : (y : ℕ) → Listed (book Q) y → Listed (book R) y
      listed y l = subst (λ m. y < length m) same_marks l

  same_books : Same (book R) (book Q)
  unfolding book_of
  same_books = record {
    size = ap length same_marks;
    marks = λ x h. ap (λ m. eqb (get_or m x 0) 1) same_marks;
    objects = objects;
  }

-- An objection of one is of the same kind in the other, with its length.
carried : (B C : Book) (y x : ℕ) (κ : Kind) (k : OfKind B y x κ) → Objects C y x
    → ((w : Verdict) → Means B x w → Means C x w) → ((w : Verdict) → Means B y w → Means C y w) → OfKind C y x κ
carried B C y x κ k o target objector = record {
  target = k.target;
  objector = k.objector;
  objects = o;
  target_means = target k.target k.target_means;
  objector_means = objector k.objector k.objector_means;
  is = k.is;
}

same_kinds : (B C : Book) → Same B C → (y x : ℕ) (κ : Kind) → Listed C x → OfKind B y x κ ↔ OfKind C y x κ
same_kinds B C s y x κ h = (
  λ k. let l : y < C.size = omega (arith, k.objects.0, s.size) in
      carried B C y x κ k (l, subst T (sym (s.objects y x l h)) k.objects.1) (λ w. (same_means B C s x w h).0)
      (λ w. (same_means B C s y w l).0),
  λ k. let l : y < C.size = k.objects.0 in
      carried C B y x κ k (omega (arith, s.size), subst T (s.objects y x l h) k.objects.1) (λ w. (same_means B C s x w h).1)
      (λ w. (same_means B C s y w l).1),
)

-- "Labels and lengths agree."
module _ (R : Register) (v : Valid R) where
  pub same_book : Same (book R) (book (grouped R))
  same_book = same_books R (grouped R) v (grouped_valid R v) (same_statements R) (has_kept R v)

  listed : (x : ℕ) → Listed (book R) x → Listed (book (grouped R)) x
  listed x h = rw same_book.size h

  pub same_label : (x : ℕ) (w : Verdict) → Listed (book R) x → Means (book R) x w ↔ Means (book (grouped R)) x w
  same_label x w h = same_means (book R) (book (grouped R)) same_book x w (listed x h)

  pub same_kind : (y x : ℕ) (κ : Kind) → Listed (book R) x → OfKind (book R) y x κ ↔ OfKind (book (grouped R)) y x κ
  same_kind y x κ h = same_kinds (book R) (book (grouped R)) same_book y x κ (listed x h)
