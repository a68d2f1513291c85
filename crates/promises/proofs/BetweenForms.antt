-- The two calls between the forms, one behind the other: "New to old to new gives the same bytes. Old to new to old keeps the
-- statements and objections, and the bytes exactly if objections were already so grouped. Labels and lengths agree." From the
-- promises alone.
use mathlib.Core.List.{List, ◌++◌}
use mathlib.Core.Logic.{inl, inr, ◌↔◌}
use mathlib.Core.Path.{ap, refl, subst, sym, ◌≡◌, ◌∙◌}
use Prim.Native.Nat.{ℕ, ◌≤◌}
use native.Mathlib.Omega.{arith}
use lib.ListN.{length, take, drop}
use lib.Seq.{take-append_seam}
use Rattle.game.specs.Account.{Account}
use Rattle.register.specs.Register.{Register, book, written}
use Rattle.register.specs.Reads.{Accepts}
use Rattle.register.proofs.Unique.{accepts_once}
use Rattle.catalogue.specs.Regrouped.{catalogued, grouped, Grouped}
use Rattle.catalogue.specs.CatalogueReads.{CatalogueAccepts}
use Rattle.catalogue.proofs.Regrouped.{same_statements}
use Rattle.catalogue.proofs.Sizes.{grouped_length}
use Rattle.catalogue.proofs.SameBook.{same_label}
use Rattle.catalogue.proofs.ThereAndBack.{catalogue_accepted_lem, old_form_accepted, same_bytes_exactly, catalogue_short}
use Rattle.answer.specs.Answer.{Answer}
use Rattle.std.specs.Prelude.{Ok, Err}
use Rattle.promises.specs.CatalogueCalls.{TextCatalogue, CatalogueText}
use Rattle.promises.specs.LabelCalls.{StatementsIn, TextStatements, TextLabels, TextLengths}
use Rattle.promises.specs.Demands.{OfText}
use Rattle.promises.proofs.CallsSay.{few, room_begins}
use Rattle.promises.proofs.OnText.{text_apart}
use Rattle.promises.proofs.UniqueCatalogue.{unique_text_catalogue, unique_catalogue_text}
use Rattle.promises.proofs.UniqueLabels.{text_statements_unique}

-- No answer of either call is longer than 65,535 bytes.
pub text_catalogue_short : (s room : List ℕ) (n : ℕ) (after : List ℕ) → TextCatalogue s room (Ok n) after → n ≤ 65535
text_catalogue_short s room n after (R, a, w) = omega (arith, w.0, catalogue_short s R a)

pub catalogue_text_short : (catalogue room : List ℕ) (n : ℕ) (after : List ℕ) → CatalogueText catalogue room (Ok n) after
    → n ≤ 65535
catalogue_text_short catalogue room n after (R, a, w) = omega (arith, w.0, a.fits)

-- New to old to new: the same bytes.
pub catalogue_again : (catalogue room : List ℕ) (n : ℕ) (after : List ℕ) → CatalogueText catalogue room (Ok n) after
    → (again : List ℕ) → length catalogue ≤ length again → (a : Answer) (after' : List ℕ)
    → TextCatalogue (take n after) again a after' → (a ≡ Ok (length catalogue)) × (take (length catalogue) after' ≡ catalogue)
catalogue_again catalogue room n after (R, a, w) again long b after' p =
    let old : Accepts (take n after) R = subst (λ u. Accepts u R) (sym (room_begins (written R) room n after w))
    (old_form_accepted catalogue R a) in
    let e : catalogued R ≡ catalogue = sym a.catalogue.is_catalogued in
    let (c, f) = unique_text_catalogue (take n after) again b (Ok (length catalogue)) after'
    (catalogue ++ drop (length catalogue) again) p
    (R, old, (sym (ap length e), omega (arith, long, ap length e), ap (λ u. u ++ drop (length u) again) (sym e))) in
    (c, ap (take (length catalogue)) f ∙ take-append_seam catalogue (drop (length catalogue) again))

-- Old to new to old: the register with its objections grouped, as many bytes, and the same exactly if they stood so already.
pub text_again : (s room : List ℕ) (n : ℕ) (after : List ℕ) → TextCatalogue s room (Ok n) after
    → (again : List ℕ) → length s ≤ length again → (a : Answer) (after' : List ℕ) → CatalogueText (take n after) again a after'
    → (a ≡ Ok (length s)) × OfText s (λ R. Accepts (take (length s) after') (grouped R)
    × ((take (length s) after' ≡ s) ↔ Grouped R))
text_again s room n after (R, a, w) again long b after' p =
    let new : CatalogueAccepts (take n after) (grouped R) = subst (λ u. CatalogueAccepts u (grouped R))
    (sym (room_begins (catalogued R) room n after w)) (catalogue_accepted_lem s R a) in
    let back : List ℕ = written (grouped R) in
    let as_long : length back ≡ length s = grouped_length R a.valid ∙ sym (ap length a.is_written) in
    let (c, f) = unique_catalogue_text (take n after) again b (Ok (length s)) after' (back ++ drop (length back) again) p
    (grouped R, new, (sym as_long, omega (arith, long, as_long), refl)) in
    let is : take (length s) after' ≡ back = ap (take (length s)) f ∙ ap (λ k. take k (back ++ drop (length back) again))
    (sym as_long) ∙ take-append_seam back (drop (length back) again) in (
      c,
      (
        R,
        a,
        (
          subst (λ u. Accepts u (grouped R)) (sym is) (old_form_accepted (take n after) (grouped R) new),
          subst (λ u. (u ≡ s) ↔ Grouped R) (sym is) (same_bytes_exactly s R a),
        ),
      ),
    )

-- Labels and lengths agree: whatever room is lent, a text and what comes of it there and back have the same answer.
module _ (s back : List ℕ) (R : Register) (a : Accepts s R) (b : Accepts back (grouped R)) where
  as_many : length (grouped R).statements ≡ length R.statements
  as_many = ap length (same_statements R)

  statements_agree : (number : Account → ℕ) (room : List ℕ) (c : Answer) (after : List ℕ) → TextStatements s number room c after
      → TextStatements back number room c after
  statements_agree number room (Err r) after (inl q, e) = absurd ((text_apart s).not_both R r a q)
  statements_agree number room (Err r) after (inr (Q, t, (short, q)), e) =
      let n : length Q.statements ≡ length R.statements = ap (λ (P : Register). length P.statements)
      (accepts_once s Q R t a) in
      (inr (grouped R, b, (omega (arith, short, n, as_many), q)), e)
  statements_agree number room (Ok n) after (Q, t, w) =
      let (c, w) = subst (λ (P : Register). StatementsIn (book P) number (length P.statements) room n after)
      (accepts_once s Q R t a) w in (
        grouped R,
        b,
        (
          c ∙ sym as_many,
          record {
            fits = w.fits;
            same = w.same;
            each = λ x h.
                let (told, (v, m, e), f) = w.each x h in
                (told, (v, (same_label R a.valid x v (omega (arith, c, h, few s R a))).0 m, e), f);
            rest = w.rest;
          },
        ),
      )

  pub labels_agree : (room : List ℕ) (c c' : Answer) (after after' : List ℕ) → TextLabels s room c after
      → TextLabels back room c' after' → (c ≡ c') × (after ≡ after')
  labels_agree room c c' after after' p =
      text_statements_unique back _ room c c' after after' (statements_agree _ room c after p)

  pub lengths_agree : (room : List ℕ) (c c' : Answer) (after after' : List ℕ) → TextLengths s room c after
      → TextLengths back room c' after' → (c ≡ c') × (after ≡ after')
  lengths_agree room c c' after after' p =
      text_statements_unique back _ room c c' after after' (statements_agree _ room c after p)
