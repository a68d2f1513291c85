-- From what is promised of the lists that reading leaves to what the calls promise of the text.
use mathlib.Core.List.{List}
use mathlib.Core.Path.{subst}
use Prim.Native.Nat.{ℕ, ◌<◌}
use lib.ListN.{length}
use Rattle.game.specs.Account.{Account}
use Rattle.register.specs.Register.{Register, book, marks_of, objectors_of, targets_of}
use Rattle.register.proofs.Order.{marks_counted}
use Rattle.register_read.specs.ReadAs.{MadeAs}
use Rattle.register.specs.Reads.{Accepts}
use Rattle.lists.specs.declared.in_order.NumberedPairs.{NumberedPairs}
use Rattle.game.specs.Book.{book_of}
use Rattle.answer.specs.Answer.{Promised, Short}
use Rattle.answer.specs.Answer.{Answer}
use Rattle.answer.proofs.Inputs.{on_promised}
use Rattle.promises.specs.LabelCalls.{StatementsIn, TextStatements}
use Rattle.promises.proofs.OnText.{text_apart}
use Rattle.call_labels_lists.specs.StatementsWritten.{StatementsWritten}

pub written_text : (number : Account → ℕ) (s : List ℕ) (p : NumberedPairs) (R : Register) → Accepts s R → MadeAs R p
    → (room : List ℕ) (a : Answer) (after : List ℕ) → StatementsWritten number p.pairs room a after
    → TextStatements s number room a after
unfolding book_of
written_text number s p R accepts made room a after w =
    on_promised (text_apart s) (λ R. Short (length room < length R.statements))
    (λ R. StatementsIn (book R) number (length R.statements) room) R accepts room a after
    (subst (λ k. Promised (Short (length room < k)) (StatementsIn (book R) number k room) room a after)
    (marks_counted R made.valid) own)
  where
    own : Promised (Short (length room < length (marks_of R)))
        (StatementsIn (book_of (marks_of R) (objectors_of R) (targets_of R)) number (length (marks_of R)) room) room a after
    own = rw (made.marks_are, made.objectors_are, made.targets_are) at w
