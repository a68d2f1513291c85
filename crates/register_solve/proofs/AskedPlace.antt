-- Lists that are a register's own, and the place at which an asked number was found among them.
use mathlib.Core.List.{List}
use mathlib.Core.Logic.{inl}
use mathlib.Core.Path.{ap, sym, refl, ◌≡◌, ◌∙◌}
use Prim.Native.Nat.{ℕ}
use native.Mathlib.Omega.{arith}
use lib.ListN.{length, get_or}
use Rattle.game.specs.Book.{book_of}
use Rattle.game.specs.Questions.{FirstBelow}
use Rattle.std.specs.Prelude.{Some, None}
use Rattle.lists.specs.Handed.{Handed}
use Rattle.label_solve.specs.Labelled.{ListsLabelled}
use Rattle.register.specs.Register.{Register, book, Issued, Places}
use Rattle.register_read.specs.ReadState.{Made}
use Rattle.register.proofs.Order.{numbers_counted, marks_counted}
use Rattle.answer.specs.declared.Refusal.TheVariants.{Asked}
use Rattle.answer.specs.Answer.{Asks}
use Rattle.register_solve.specs.SolvedText.{Ready}
use Rattle.register_read.proofs.Lent.{register_handed}

module _ (R : Register) (nums marks objectors targets : List ℕ) (made : Made R nums marks objectors targets) where
  pub lists_handed : Handed marks objectors targets
  lists_handed = rw (made.marks_are, made.objectors_are, made.targets_are) (register_handed R made.valid)

  pub counted : length nums ≡ length marks
  counted =
      ap length made.numbers_are ∙ numbers_counted R ∙ sym (marks_counted R made.valid) ∙ sym (ap length made.marks_are)

  pub book_is : book_of marks objectors targets ≡ book R
  book_is = rw (made.marks_are, made.objectors_are, made.targets_are) refl

  -- a number that is not found is asked for in vain, and one that is found has its place there
  module _ (number : ℕ) where
    pub unlisted : FirstBelow (λ i. get_or nums i 0 ≡ number) (length nums) None → (turns : ℕ) (short : Type 0)
        → Asks (Issued R number) turns short Asked
    unlisted none turns short =
        inl (
          λ w. none w.0 (omega (arith, w.1, ap length made.numbers_are))
              (ap (λ (u : List ℕ). get_or u w.0 0) made.numbers_are ∙ w.2),
          refl,
        )

    pub place : (x : ℕ) → FirstBelow (λ i. get_or nums i 0 ≡ number) (length nums) (Some x) → Places R number x
    place x found = (
      omega (arith, found.0, ap length made.numbers_are),
      sym (ap (λ (u : List ℕ). get_or u x 0) made.numbers_are) ∙ found.2,
    )

-- what is ready is settled
pub ready_settled : (R : Register) (nums marks objectors targets labels lengths : List ℕ)
    → Ready R nums marks objectors targets labels lengths → ListsLabelled marks objectors targets labels lengths
ready_settled R nums marks objectors targets labels lengths r = record {
  handed = lists_handed R nums marks objectors targets r.made;
  labelled = rw (r.made.marks_are, r.made.objectors_are, r.made.targets_are) r.labelled;
  labels_room = omega (arith, r.labels_room, marks_counted R r.made.valid, ap length r.made.marks_are);
  lengths_room = omega (arith, r.lengths_room, marks_counted R r.made.valid, ap length r.made.marks_are);
}
