-- Every promise of labels and lengths, on lists and on a text, leaves one answer and one content of the room: `unique_CALL` for
-- each call.
use mathlib.Core.List.{List}
use mathlib.Core.Path.{sym, ◌≡◌, ◌∙◌}
use Prim.Native.Nat.{ℕ, ◌<◌}
use native.Mathlib.Omega.{arith}
use lib.ListN.{length}
use Rattle.game.specs.Book.{Book, book_of}
use Rattle.game.specs.Account.{Account, OfStatement}
use Rattle.game.proofs.Account.{statement_once, number_once}
use Rattle.register.specs.Register.{book}
use Rattle.answer.specs.declared.Refusal.{Refusal}
use Rattle.answer.specs.Answer.{Short}
use Rattle.answer.specs.Answer.{Answer}
use Rattle.answer.proofs.Rooms.{begins_unique}
use Rattle.answer.proofs.Promises.{short_once}
use Rattle.answer.proofs.Inputs.{on_unique}
use Rattle.promises.proofs.OnLists.{lists_apart}
use Rattle.promises.proofs.OnText.{text_apart}
use Rattle.promises.specs.LabelCalls.{StatementsIn, PairsStatements, PairsLabels, PairsLengths, MovesLabels, MovesLengths}
use Rattle.promises.specs.LabelCalls.{TextStatements, TextLabels, TextLengths}

module _ (B : Book) (number : Account → ℕ) (statements : ℕ) (room : List ℕ) where
  statements_once : (n n' : ℕ) (after after' : List ℕ) → StatementsIn B number statements room n after
      → StatementsIn B number statements room n' after' → (n ≡ n') × (after ≡ after')
  statements_once n n' after after' (e, b) (e', b') =
      let q : n' ≡ n = e' ∙ sym e in (
        sym q,
        begins_unique (λ x e. (a : Account) × OfStatement B x a × (e ≡ number a)) room n after after'
            (λ k i j h. number_once (OfStatement B k) (statement_once B k) number i j) b (rw q at b'),
      )

  -- where they are written, the room is not short
  statements_fit : (r : Refusal) (n : ℕ) (after : List ℕ) → Short (length room < statements) r
      → StatementsIn B number statements room n after → ⊥
  statements_fit r n after (h, e) (c, b) = omega (arith, h, c, b.fits)

module _ (marks objectors targets : List ℕ) where
  pub pairs_statements_unique : (number : Account → ℕ) (room : List ℕ) (a a' : Answer) (after after' : List ℕ)
      → PairsStatements marks objectors targets number room a after
      → PairsStatements marks objectors targets number room a' after' → (a ≡ a') × (after ≡ after')
  pairs_statements_unique number room =
      let B = book_of marks objectors targets in
      on_unique (lists_apart marks objectors targets) (λ m. Short (length room < length marks))
      (λ m. short_once (length room < length marks)) (λ m. StatementsIn B number (length marks) room)
      (λ m l. statements_fit B number (length marks) room) (λ m l. statements_once B number (length marks) room) room

  pub unique_pairs_labels : (room : List ℕ) (a a' : Answer) (after after' : List ℕ)
      → PairsLabels marks objectors targets room a after → PairsLabels marks objectors targets room a' after' → (a ≡ a')
      × (after ≡ after')
  unique_pairs_labels = pairs_statements_unique _

  pub unique_pairs_lengths : (room : List ℕ) (a a' : Answer) (after after' : List ℕ)
      → PairsLengths marks objectors targets room a after → PairsLengths marks objectors targets room a' after' → (a ≡ a')
      × (after ≡ after')
  unique_pairs_lengths = pairs_statements_unique _

pub unique_moves_labels : (marks from to room : List ℕ) (a a' : Answer) (after after' : List ℕ)
    → MovesLabels marks from to room a after → MovesLabels marks from to room a' after' → (a ≡ a') × (after ≡ after')
unique_moves_labels marks from to = unique_pairs_labels marks to from

pub unique_moves_lengths : (marks from to room : List ℕ) (a a' : Answer) (after after' : List ℕ)
    → MovesLengths marks from to room a after → MovesLengths marks from to room a' after' → (a ≡ a') × (after ≡ after')
unique_moves_lengths marks from to = unique_pairs_lengths marks to from

module _ (s : List ℕ) where
  pub text_statements_unique : (number : Account → ℕ) (room : List ℕ) (a a' : Answer) (after after' : List ℕ)
      → TextStatements s number room a after → TextStatements s number room a' after' → (a ≡ a') × (after ≡ after')
  text_statements_unique number room =
      on_unique (text_apart s) (λ R. Short (length room < length R.statements))
      (λ R. short_once (length room < length R.statements)) (λ R. StatementsIn (book R) number (length R.statements) room)
      (λ R t. statements_fit (book R) number (length R.statements) room)
      (λ R t. statements_once (book R) number (length R.statements) room) room

  pub unique_text_labels : (room : List ℕ) (a a' : Answer) (after after' : List ℕ) → TextLabels s room a after
      → TextLabels s room a' after' → (a ≡ a') × (after ≡ after')
  unique_text_labels = text_statements_unique _

  pub unique_text_lengths : (room : List ℕ) (a a' : Answer) (after after' : List ℕ) → TextLengths s room a after
      → TextLengths s room a' after' → (a ≡ a') × (after ≡ after')
  unique_text_lengths = text_statements_unique _
