-- A statement has one reason, which is there and is not long.
use mathlib.Core.List.{List, ◌++◌}
use mathlib.Core.Path.{ap₂, ap, refl, sym, ◌≡◌, ◌∙◌}
use Prim.Native.Nat.{ℕ, ◌≤◌, ◌<◌}
use native.Mathlib.Omega.{arith}
use lib.ListN.{get_or, length, length-append}
use Rattle.game.specs.Book.{book_of}
use Rattle.game.specs.Reason.{InReason}
use Rattle.game.proofs.Account.{statement_once, statement_told}
use Rattle.register.specs.Register.{Register, Valid, numbers, book, objectors_of, targets_of}
use Rattle.register.specs.Reads.{Accepts}
use Rattle.register.proofs.Order.{marks_counted}
use Rattle.reason.specs.Alone.{keep}
use Rattle.reason.proofs.Alone.{alone_there}
use Rattle.reason.proofs.Keep.{keep_same, tests_same}
use Rattle.listing.specs.Rows.{statement_row}
use Rattle.listing.specs.Listing.{objection_rows}
use Rattle.listing.proofs.Rows.{statement_small}
use Rattle.listing.proofs.Listing.{rows_bounded, text_length, objections_once, objections_there}
use Rattle.reason.specs.Reasons.{IsReason}
use Rattle.reason.proofs.KeepRows.{kept_shorter}

module _ (R : Register) (x : ℕ) where
  -- What the reason of a statement is, is not up to the program.
  pub reason_once : (l l' : List ℕ) → IsReason R x l → IsReason R x l' → l ≡ l'
  reason_once l l' a b =
      a.is ∙ ap₂ (λ v u. statement_row (get_or (numbers R) x 0) v ++ u)
      (statement_once (book R) x a.statement b.statement a.of_statement_lem b.of_statement_lem)
      (ap₂ objection_rows (keep_same a.inside b.inside R.objections choices_same)
      (keep_same a.inside b.inside a.objections (λ k h. choices_same k (omega (arith, a.of_objections_lem.each)))
      ∙ ap (keep b.inside) (objections_once R a.objections b.objections a.of_objections_lem b.of_objections_lem)))
      ∙ sym b.is
    where
      choices_same : (k : ℕ) → k < length R.objections → a.inside k ≡ b.inside k
      choices_same =
          tests_same (λ k. InReason (book R) x (get_or (objectors_of R) k 0) (get_or (targets_of R) k 0)) (length R.objections)
          a.inside b.inside a.exactly b.exactly

  pub reason_there : Valid R → x < length R.statements → (l : List ℕ) × IsReason R x l
  unfolding book_of
  reason_there v h =
      let (told, of) = statement_told (book R) x (omega (arith, marks_counted R v)) in
      let (objections, is) = objections_there R v in
      let (S, alone) = alone_there R v x h in (
        statement_row (get_or (numbers R) x 0) told ++ objection_rows (keep alone.objection R.objections)
            (keep alone.objection objections),
        record {
          statement = told;
          objections = objections;
          of_statement_lem = of;
          of_objections_lem = is;
          inside = alone.objection;
          exactly = alone.objections_exactly;
          is = refl;
        },
      )

  -- it has at most 131,072 bytes
  pub reason_short : (s l : List ℕ) → Accepts s R → IsReason R x l → length l ≤ 131072
  reason_short s l a r =
      let (v, m, e) = r.of_statement_lem in
      omega (
        arith,
        ap length r.is,
        length-append (statement_row (get_or (numbers R) x 0) r.statement)
            (objection_rows (keep r.inside R.objections) (keep r.inside r.objections)),
        ap (λ u. length (statement_row (get_or (numbers R) x 0) u)) e,
        statement_small (get_or (numbers R) x 0) v,
        kept_shorter r.inside R.objections r.objections,
        rows_bounded s R a r.objections r.of_objections_lem,
        text_length s R a,
        a.fits,
        a.valid.few_objections,
      )
