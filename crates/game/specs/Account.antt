-- What is told of a statement and of an objection, in numbers and in words. It is said here once: labels and lengths, kinds,
-- listing, reason and sheet go by it. How words and lengths are put into rows is left to `listing`.
use Rattle.std.specs.Prelude.{List, [], ◌∷◌, ◌≡◌, ℕ}
use Rattle.std.proofs.Math.Option.{Option, some, none}
use Rattle.game.specs.Book.{Book}
use Rattle.game.specs.Label.{Verdict, Means, is_open, stands, falls}
use Rattle.game.specs.Objection.{OfKind}
use Rattle.game.specs.declared.Kind.{Kind}
use Rattle.game.specs.declared.Kind.TheVariants.{Idle, Felling, Delaying, Standoff}

-- a number, a word, and a length where there is one
pub record Account : Type 0 where
  pub number : ℕ
  pub word : List ℕ
  pub turns : Option ℕ

-- "As numbers, labels are 0 open, 1 stands, 2 falls"; the words are `open`, `stands`, `falls`.
abbrev pub verdict_account : Verdict → Account
verdict_account is_open = record { number = 0; word = 111 ∷ 112 ∷ 101 ∷ 110 ∷ []; turns = none }
verdict_account (stands n) = record { number = 1; word = 115 ∷ 116 ∷ 97 ∷ 110 ∷ 100 ∷ 115 ∷ []; turns = some n }
verdict_account (falls n) = record { number = 2; word = 102 ∷ 97 ∷ 108 ∷ 108 ∷ 115 ∷ []; turns = some n }

-- The kinds are 0 `idle`, 1 `felling`, 2 `delaying`, 3 `standoff`. "Standoff and idle have `-`."
abbrev pub kind_account : Kind → Account
kind_account Idle = record { number = 0; word = 105 ∷ 100 ∷ 108 ∷ 101 ∷ []; turns = none }
kind_account (Felling n) = record { number = 1; word = 102 ∷ 101 ∷ 108 ∷ 108 ∷ 105 ∷ 110 ∷ 103 ∷ []; turns = some n }
kind_account (Delaying n) = record { number = 2; word = 100 ∷ 101 ∷ 108 ∷ 97 ∷ 121 ∷ 105 ∷ 110 ∷ 103 ∷ []; turns = some n }
kind_account Standoff = record { number = 3; word = 115 ∷ 116 ∷ 97 ∷ 110 ∷ 100 ∷ 111 ∷ 102 ∷ 102 ∷ []; turns = none }

-- nothing is told; it stands past the end of a list
abbrev pub untold : Account
untold = record { number = 0; word = []; turns = none }

-- a is what is told of the statement x; of the objection of y against x
abbrev pub OfStatement : Book → ℕ → Account → Type 0
OfStatement B x a = (v : Verdict) × Means B x v × (a ≡ verdict_account v)

abbrev pub OfObjection : Book → (y x : ℕ) → Account → Type 0
OfObjection B y x a = (κ : Kind) × OfKind B y x κ × (a ≡ kind_account κ)

-- the length as a number: "a length of `-` is 65,535"
abbrev pub turns_number : Option ℕ → ℕ
turns_number none = 65535
turns_number (some n) = n

abbrev pub account_number : Account → ℕ
account_number a = a.number

abbrev pub account_length : Account → ℕ
account_length a = turns_number a.turns

-- the same of verdicts and of kinds
abbrev pub label_number : Verdict → ℕ
label_number v = account_number (verdict_account v)

abbrev pub length_number : Verdict → ℕ
length_number v = account_length (verdict_account v)

abbrev pub kind_number : Kind → ℕ
kind_number κ = account_number (kind_account κ)

abbrev pub kind_length : Kind → ℕ
kind_length κ = account_length (kind_account κ)
