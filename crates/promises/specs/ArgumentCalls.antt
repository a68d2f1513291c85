-- The promises of the calls for a line of argument: on handed lists, about the statement at a place and by places; on a register
-- text, about the statement of a number and by numbers. What a line of argument is, `game` says.
use Rattle.std.specs.Prelude.{List, map, ℕ, ◌<◌, length, get_or}
use Rattle.game.specs.Book.{book_of}
use Rattle.game.specs.Argument.{Argument}
use Rattle.answer.specs.Answer.{Written, Asks}
use Rattle.answer.specs.Answer.{Answer}
use Rattle.promises.specs.OnLists.{OnLists}
use Rattle.register.specs.Register.{Register, numbers, Places, book, Issued}
use Rattle.answer.specs.declared.Refusal.{Refusal}
use Rattle.promises.specs.OnText.{OnText}

module _ (marks objectors targets : List ℕ) where
  -- the line of argument of the statement at a place, by places; the room is shorter than that
  abbrev pub PairsArgumentIn : (place : ℕ) → List ℕ → ℕ → List ℕ → Type 0
  PairsArgumentIn place room n after =
      (place < length marks) × ((l : List ℕ) × Argument (book_of marks objectors targets) place l × Written l room n after)

  abbrev pub PairsArgumentShort : (place : ℕ) → List ℕ → Type 0
  PairsArgumentShort place room = (l : List ℕ) × Argument (book_of marks objectors targets) place l × (length room < length l)

  -- 14 for lists: the asked place is not below the number of marks
  abbrev pub PairsArgument : (place : ℕ) → List ℕ → Answer → List ℕ → Type 0
  PairsArgument place room =
      OnLists marks objectors targets (Asks (place < length marks) 0 (PairsArgumentShort place room))
      (PairsArgumentIn place room) room

-- places told by their numbers
abbrev pub by_number : Register → List ℕ → List ℕ
by_number R l = map (λ x. get_or (numbers R) x 0) l

-- the room holds the line of argument of the statement of this number, by numbers; the room is shorter than that; and what is
-- refused: 14, 15, 10, of which 15 never, since no turns are asked
abbrev pub TextArgumentIn : Register → (number : ℕ) → List ℕ → ℕ → List ℕ → Type 0
TextArgumentIn R number room n after =
    (x : ℕ) × Places R number x × ((l : List ℕ) × Argument (book R) x l × Written (by_number R l) room n after)

abbrev pub TextArgumentShort : Register → (number : ℕ) → List ℕ → Type 0
TextArgumentShort R number room = (x : ℕ) × Places R number x × ((l : List ℕ) × Argument (book R) x l × (length room < length l))

abbrev pub TextArgumentRefused : Register → (number : ℕ) → List ℕ → Refusal → Type 0
TextArgumentRefused R number room = Asks (Issued R number) 0 (TextArgumentShort R number room)

-- the line of argument of the statement of a number
abbrev pub TextArgument : (text : List ℕ) → (number : ℕ) → List ℕ → Answer → List ℕ → Type 0
TextArgument text number room =
    OnText text (λ R. TextArgumentRefused R number room) (λ R. TextArgumentIn R number room) room
