-- The promises of the calls for labels and lengths: on handed lists, those of the book that the lists make; on a register text,
-- those of the book of the register that the text is the written form of.
use Rattle.std.specs.Prelude.{List, ◌≡◌, ℕ, ◌<◌, length}
use Rattle.game.specs.Book.{Book, book_of}
use Rattle.game.specs.Account.{Account, OfStatement, account_number, account_length}
use Rattle.answer.specs.Answer.{Short, Begins}
use Rattle.answer.specs.Answer.{Answer}
use Rattle.register.specs.Register.{book}
use Rattle.promises.specs.OnText.{OnText}
use Rattle.promises.specs.OnLists.{OnLists}

-- a number of what is told of each of so many statements, in listed order
abbrev pub StatementsIn : Book → (Account → ℕ) → (statements : ℕ) → List ℕ → ℕ → List ℕ → Type 0
StatementsIn B number statements room n after =
    (n ≡ statements) × Begins n (λ x e. (a : Account) × OfStatement B x a × (e ≡ number a)) room after

module _ (marks objectors targets : List ℕ) where
  abbrev pub PairsStatements : (Account → ℕ) → List ℕ → Answer → List ℕ → Type 0
  PairsStatements number room =
      OnLists marks objectors targets (Short (length room < length marks))
      (StatementsIn (book_of marks objectors targets) number (length marks) room) room

  abbrev pub PairsLabels : List ℕ → Answer → List ℕ → Type 0
  PairsLabels = PairsStatements account_number

  abbrev pub PairsLengths : List ℕ → Answer → List ℕ → Type 0
  PairsLengths = PairsStatements account_length

-- "A caller may hand over moves instead, which is the same with the two lists exchanged, and gets the same labels and
-- lengths." A move goes from the target to the objector.
abbrev pub MovesLabels : (marks from to : List ℕ) → List ℕ → Answer → List ℕ → Type 0
MovesLabels marks from to = PairsLabels marks to from

abbrev pub MovesLengths : (marks from to : List ℕ) → List ℕ → Answer → List ℕ → Type 0
MovesLengths marks from to = PairsLengths marks to from

module _ (text : List ℕ) where
  abbrev pub TextStatements : (Account → ℕ) → List ℕ → Answer → List ℕ → Type 0
  TextStatements number room =
      OnText text (λ R. Short (length room < length R.statements))
      (λ R. StatementsIn (book R) number (length R.statements) room) room

  abbrev pub TextLabels : List ℕ → Answer → List ℕ → Type 0
  TextLabels = TextStatements account_number

  abbrev pub TextLengths : List ℕ → Answer → List ℕ → Type 0
  TextLengths = TextStatements account_length
