-- What the numbers of labels and lengths say is what the statements and objections mean; so the rows by those numbers are the
-- register's.
use mathlib.Core.List.{List}
use mathlib.Core.Path.{ap, subst, sym, ap₂, refl, ◌≡◌, ◌∙◌}
use Prim.Native.Nat.{ℕ, ◌<◌}
use native.Mathlib.Omega.{arith}
use lib.ListN.{length, get_or, length-map}
use Rattle.game.specs.Book.{Book, book_of, Listed, Objects}
use Rattle.game.specs.Label.{Verdict, is_open, stands, falls, Means}
use Rattle.game.specs.Account.{label_number, length_number, Account, OfStatement, kind_account, untold}
use Rattle.label_solve.specs.Labelled.{Told}
use Rattle.game.specs.Objection.{OfKind, kind_of}
use Rattle.game.proofs.Objection.{or_idle}
use Rattle.game.specs.declared.Kind.{Kind}
use Rattle.game.proofs.Verdict.{means_unique}
use Rattle.game.proofs.Objection.{kind_exists}
use Rattle.game.proofs.HandedBook.{objects_entry}
use Rattle.register.specs.declared.ObjectionLine.{ObjectionLine}
use Rattle.register.specs.Register.{Register, numbers, marks_of, objectors_of, targets_of, objector_numbers, target_numbers, book}
use Rattle.register.proofs.Order.{marks_counted, objectors_counted, register_in_order, numbers_counted, number_there}
use Rattle.register_solve.specs.SolvedText.{Ready}
use Rattle.listing.specs.Rows.{objection_row}
use Rattle.listing.specs.Listing.{ObjectionsTold}
use Rattle.game.proofs.UpTo.{up_to, length_up_to, get_or_up_to}
use Rattle.listing_row.specs.Said.{said}
use Rattle.listing_row.specs.RowsAt.{Listable, verdict_at, kind_at, statement_told_at, objection_told_at, objection_row_at}
use Rattle.listing_row.proofs.Said.{said_open, said_stands, said_falls}

told_said : (v : Verdict) (l n : ℕ) → l ≡ label_number v → n ≡ length_number v → said l n ≡ v
told_said is_open l n p q = said_open l n (λ e. omega arith) (λ e. omega arith)
told_said (stands k) l n p q = said_stands l n p ∙ ap stands q
told_said (falls k) l n p q = said_falls l n p ∙ ap falls q

module _ (nums marks objectors targets labels lengths : List ℕ)
    (given : Listable nums marks objectors targets labels lengths) where
  abbrev B : Book
  B = book_of marks objectors targets

  listed : (x : ℕ) → x < length marks → Listed B x
  unfolding book_of
  listed x h = h

  verdict_told : (x : ℕ) → x < length marks → Means B x (verdict_at labels lengths x)
  verdict_told x h =
      let t : Told B x (get_or labels x 0) (get_or lengths x 0) = given.labelled.told x (listed x h) in
      subst (λ v. Means B x v) (sym (told_said t.verdict (get_or labels x 0) (get_or lengths x 0) t.label_is t.length_is))
      t.means

  -- the kind of an entry is that of the table
  kind_told : (k : ℕ) (κ : Kind) → k < length objectors → OfKind B (get_or objectors k 0) (get_or targets k 0) κ
      → κ ≡ kind_at objectors targets labels lengths k
  kind_told k κ h o =
      let y : ℕ = get_or objectors k 0 in
      let x : ℕ = get_or targets k 0 in
      let t : o.target ≡ verdict_at labels lengths x = means_unique B x o.target (verdict_at labels lengths x) o.target_means
      (verdict_told x (given.handed.order.target k h)) in
      let s : o.objector ≡ verdict_at labels lengths y = means_unique B y o.objector (verdict_at labels lengths y)
      o.objector_means (verdict_told y (given.handed.order.objector k h)) in
      sym (ap or_idle (ap₂ kind_of (sym t) (sym s) ∙ o.is))

  pub row_told : (k y x : ℕ) (κ : Kind) → k < length objectors → y ≡ get_or objectors k 0 → x ≡ get_or targets k 0
      → OfKind B (get_or objectors k 0) (get_or targets k 0) κ → objection_row (get_or nums y 0) (get_or nums x 0)
      (kind_account κ) ≡ objection_row_at nums objectors targets labels lengths k
  row_told k y x κ h p q o =
      rw (p, q) (ap (λ u. objection_row (get_or nums (get_or objectors k 0) 0) (get_or nums (get_or targets k 0) 0)
      (kind_account u))
      (kind_told k κ h o))

  kind_of_entry : (k : ℕ) → k < length objectors → OfKind B (get_or objectors k 0) (get_or targets k 0)
      (kind_at objectors targets labels lengths k)
  kind_of_entry k h =
      let objects : Objects B (get_or objectors k 0) (get_or targets k 0) =
      (objects_entry marks objectors targets (get_or objectors k 0)
      (get_or targets k 0)).1 (given.handed.order.objector k h, (k, (h, refl, refl))) in
      let (κ, o) = kind_exists B (get_or objectors k 0) (get_or targets k 0)
      (listed (get_or targets k 0) (given.handed.order.target k h)) objects in
      subst (λ κ. OfKind B (get_or objectors k 0) (get_or targets k 0) κ) (kind_told k κ h o) o

module _ (R : Register) (nums marks objectors targets labels lengths : List ℕ)
    (ready : Ready R nums marks objectors targets labels lengths) where
  pub ready_lists : Listable nums marks objectors targets labels lengths
  ready_lists =
      rw (ready.made.numbers_are, ready.made.marks_are, ready.made.objectors_are, ready.made.targets_are) (record {
        handed = record {
          few_marks = omega (arith, marks_counted R ready.made.valid, ready.made.valid.few_statements);
          few_pairs = omega (arith, objectors_counted R ready.made.valid, ready.made.valid.few_objections);
          order = register_in_order R ready.made.valid;
        };
        numbered = numbers_counted R ∙ sym (marks_counted R ready.made.valid);
        labels_room = omega (arith, marks_counted R ready.made.valid, ready.labels_room);
        lengths_room = omega (arith, marks_counted R ready.made.valid, ready.lengths_room);
        labelled = ready.labelled;
      })

  own : Listable (numbers R) (marks_of R) (objectors_of R) (targets_of R) labels lengths
  own = rw (ready.made.numbers_are, ready.made.marks_are, ready.made.objectors_are, ready.made.targets_are) at ready_lists

  -- the numbers at the places of the ends of an objection are those on its line
  objector_number : (k : ℕ) → k < length R.objections → get_or (numbers R) (get_or (objectors_of R) k 0) 0 ≡ get_or
      (objector_numbers R) k 0
  objector_number k h =
      number_there R (objector_numbers R) k (omega (arith, length-map R.objections (λ (o : ObjectionLine). o.objector)))
      (ready.made.valid.known k h).0

  target_number : (k : ℕ) → k < length R.objections → get_or (numbers R) (get_or (targets_of R) k 0) 0 ≡ get_or (target_numbers R)
      k 0
  target_number k h =
      number_there R (target_numbers R) k (omega (arith, length-map R.objections (λ (o : ObjectionLine). o.target)))
      (ready.made.valid.known k h).1

  abbrev told : ℕ → Account
  told = objection_told_at (objectors_of R) (targets_of R) labels lengths

  pub own_statement : (x : ℕ) → x < length R.statements → OfStatement (book R) x (statement_told_at labels lengths x)
  own_statement x h = (
    verdict_at labels lengths x,
    verdict_told (numbers R) (marks_of R) (objectors_of R) (targets_of R) labels lengths own x
        (omega (arith, marks_counted R ready.made.valid)),
    refl,
  )

  pub own_objections : ObjectionsTold R (up_to (length R.objections) told)
  own_objections = record {
    each = length_up_to (length R.objections) told;
    is = λ k h. rw (get_or_up_to (length R.objections) told untold k h) (
      kind_at (objectors_of R) (targets_of R) labels lengths k,
      kind_of_entry (numbers R) (marks_of R) (objectors_of R) (targets_of R) labels lengths own k
          (omega (arith, objectors_counted R ready.made.valid)),
      refl,
    );
  }

  pub own_row : (k : ℕ) → k < length R.objections
      → objection_row_at (numbers R) (objectors_of R) (targets_of R) labels lengths k ≡ objection_row
      (get_or (objector_numbers R) k 0)
      (get_or (target_numbers R) k 0) (told k)
  own_row k h = ap₂ (λ y x. objection_row y x (told k)) (objector_number k h) (target_number k h)
