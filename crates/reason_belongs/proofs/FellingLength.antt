-- A felling objection of a labelled register, by its length and the one that is there for its target: that is the length of the
-- target's verdict.
use mathlib.Core.List.{List}
use mathlib.Core.Path.{ap, refl, ◌≡◌, ◌∙◌}
use Prim.Native.Nat.{ℕ, ◌<◌}
use native.Mathlib.Omega.{arith}
use borrow.Author.Tests.{eq-eqb, ne_eqb}
use lib.Dec.{eqb}
use lib.ListN.{length, get_or}
use Rattle.game.specs.Book.{Book, book_of}
use Rattle.game.specs.Account.{length_number}
use Rattle.game.specs.Objection.{OfKind}
use Rattle.game.specs.Questions.{Decides}
use Rattle.game.specs.Reason.{Belongs}
use Rattle.game.specs.declared.Kind.{Kind}
use Rattle.game.specs.declared.Kind.TheVariants.{Felling}
use Rattle.game.proofs.Verdict.{means_unique}
use Rattle.game.proofs.Reason.{belongs_decided}
use Rattle.lists.specs.Handed.{Handed}
use Rattle.label_solve.specs.Labelled.{Labelled, Told}

module _ (marks objectors targets labels lengths : List ℕ) (handed : Handed marks objectors targets)
    (labelled : Labelled (book_of marks objectors targets) labels lengths) (k : ℕ) (h : k < length objectors) where
  abbrev pub B : Book
  B = book_of marks objectors targets

  module _ (n : ℕ) (o : OfKind B (get_or objectors k 0) (get_or targets k 0) (Felling n)) where
    target_length : get_or lengths (get_or targets k 0) 0 ≡ length_number o.target
    unfolding book_of
    target_length =
        let x : ℕ = get_or targets k 0 in
        let there : x < length marks = omega (arith, handed.order.target k h) in
        let told : Told B x (get_or labels x 0) (get_or lengths x 0) = labelled.told x there in
        told.length_is ∙ ap length_number (means_unique B x told.verdict o.target told.means o.target_means)

    -- it belongs to the reason exactly where the two lengths are equal
    pub felling_decided : Decides (Belongs B (get_or objectors k 0) (get_or targets k 0))
        (eqb n (get_or lengths (get_or targets k 0) 0))
    felling_decided =
        belongs_decided B (get_or objectors k 0) (get_or targets k 0) (Felling n) o (Felling n) refl
        (eqb n (get_or lengths (get_or targets k 0) 0)) (ap (eqb n) target_length)

  -- so too by an equal kind and an equal place, each way for itself
  module _ (x : ℕ) (e : x ≡ get_or targets k 0) (κ : Kind) (o : OfKind B (get_or objectors k 0) (get_or targets k 0) κ) (n : ℕ)
      (f : κ ≡ Felling n) where
    decided : Decides (Belongs B (get_or objectors k 0) (get_or targets k 0)) (eqb n (get_or lengths x 0))
    decided = rw e (felling_decided n (rw f at o))

    pub felling_belongs : n ≡ get_or lengths x 0 → Belongs B (get_or objectors k 0) (get_or targets k 0)
    felling_belongs i = rw (eq-eqb n (get_or lengths x 0) i) at decided

    pub felling_apart : (n ≡ get_or lengths x 0 → ⊥) → ¬ Belongs B (get_or objectors k 0) (get_or targets k 0)
    felling_apart i = rw (ne_eqb n (get_or lengths x 0) i) at decided
