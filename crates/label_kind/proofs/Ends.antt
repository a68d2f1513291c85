-- What the ends of an objection say of its kind, and the two ends of the objection at an entry, as `kind_of` wants them told.
use mathlib.Core.List.{List}
use mathlib.Core.Option.{none, some}
use mathlib.Core.Path.{◌≡◌, sym, ◌∙◌, ap, ap₂, subst₂}
use Prim.Native.Nat.{ℕ, ◌+◌, ◌≤◌, ◌<◌}
use native.Mathlib.Omega.{arith}
use lib.ListN.{length, get_or}
use Rattle.game.specs.Book.{book_of}
use Rattle.game.specs.Label.{Verdict, Means, falls, stands, is_open}
use Rattle.game.specs.Account.{label_number, length_number}
use Rattle.game.specs.Objection.{kind_of, OfKind}
use Rattle.game.specs.declared.Kind.{Kind}
use Rattle.game.proofs.Verdict.{length_bound}
use Rattle.game.proofs.Objection.{never_occurs, kind_by, kind_by_lem, label_low}
use Rattle.game.proofs.HandedBook.{objects_entry}
use Rattle.lists.specs.Handed.{Handed}
use Rattle.label_solve.specs.Labelled.{Labelled}
use Rattle.label_kind.specs.Ends.{Ends}

module _ (target objector length : ℕ) (e : Ends target objector length) where
  told : kind_by target objector length ≡ kind_of e.target_told.verdict e.objector_told.verdict
  told =
      ap (λ l. kind_by l objector length) e.target_told.label_is
      ∙ ap₂ (λ l n. kind_by (label_number e.target_told.verdict) l n) e.objector_told.label_is e.objector_told.length_is
      ∙ kind_by_lem e.target_told.verdict e.objector_told.verdict

  -- At the place t, o of the table.
  module _ (t o : ℕ) (at_target : target ≡ t) (at-objector : objector ≡ o) where
    here : kind_by t o length ≡ kind_of e.target_told.verdict e.objector_told.verdict
    here = ap₂ (λ a b. kind_by a b length) (sym at_target) (sym at-objector) ∙ told

    pub kind_at : (κ : Kind) → kind_by t o length ≡ some κ → OfKind e.book e.y e.x κ
    kind_at κ h = record {
      target = e.target_told.verdict;
      objector = e.objector_told.verdict;
      objects = e.objects;
      target_means = e.target_told.means;
      objector_means = e.objector_told.means;
      is = sym here ∙ h;
    }

    pub never_at : kind_by t o length ≡ none → ⊥
    never_at h =
        never_occurs e.book e.y e.x e.target_told.verdict e.objector_told.verdict e.objects
        e.target_told.means e.objector_told.means (sym here ∙ h)

  -- there are no other places
  pub ends_low : (target ≤ 2) × (objector ≤ 2)
  ends_low = (
    omega (arith, e.target_told.label_is, label_low e.target_told.verdict),
    omega (arith, e.objector_told.label_is, label_low e.objector_told.verdict),
  )

  -- an objector that is not open has a length, and one more than that fits 16 bits
  pub ends_length : (objector ≡ 0 → ⊥) → length + 1 ≤ 65535
  ends_length h =
      go e.objector_told.verdict e.objector_told.means e.objector_told.label_is e.objector_told.length_is
    where
      go : (v : Verdict) → Means e.book e.y v → objector ≡ label_number v → length ≡ length_number v → length + 1 ≤ 65535
      go is_open m l n = absurd (h l)
      go (stands k) m l n = omega (arith, length_bound e.book e.y e.objects.0 (stands k) m, e.small)
      go (falls k) m l n = omega (arith, length_bound e.book e.y e.objects.0 (falls k) m, e.small)

module _ (marks objectors targets labels lengths : List ℕ) (reg : Handed marks objectors targets)
    (told : Labelled (book_of marks objectors targets) labels lengths) (k y x : ℕ) (h : k < length objectors)
    (hy : y ≡ get_or objectors k 0) (hx : x ≡ get_or targets k 0) where
  pub objector_place : y < length marks
  objector_place = omega (arith, hy, reg.order.objector k h)

  pub target_place : x < length marks
  target_place = omega (arith, hx, reg.order.target k h)

  pub ends : Ends (get_or labels x 0) (get_or labels y 0) (get_or lengths y 0)
  unfolding book_of
  ends = record {
    book = book_of marks objectors targets;
    small = omega (arith, reg.few_marks);
    y = y;
    x = x;
    objects = (objects_entry marks objectors targets y x).1 (objector_place, (k, (h, sym hy, sym hx)));
    target_length = get_or lengths x 0;
    target_told = told.told x target_place;
    objector_told = told.told y objector_place;
  }

  pub kind_of_entry : (κ : Kind) → ((e : Ends (get_or labels x 0) (get_or labels y 0) (get_or lengths y 0))
      → OfKind e.book e.y e.x κ) → OfKind (book_of marks objectors targets) (get_or objectors k 0) (get_or targets k 0) κ
  unfolding ends
  kind_of_entry κ f = subst₂ (λ b a. OfKind (book_of marks objectors targets) b a κ) hy hx (f ends)
