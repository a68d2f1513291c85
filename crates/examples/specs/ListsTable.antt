-- What the calls on handed lists answer, as a C caller gets it, and what the rooms then hold: every refusal of lists and of what
-- is asked of them, each at the first entry and at a later one, two faults at once, and what is given, in rooms that are longer
-- than the answer. A row says what the call's promise says of these lists and rooms. Rooms are found full of 7s.
use Rattle.std.specs.Prelude.{List, [], ◌∷◌, ℕ, replicate}
use Rattle.answer.specs.InC.{InC}
use Rattle.answer.specs.declared.CAnswer.{CAnswer}
use Rattle.promises.specs.LabelCalls.{PairsLabels, PairsLengths, MovesLabels, MovesLengths}
use Rattle.promises.specs.KindCalls.{PairsKinds}
use Rattle.promises.specs.ArgumentCalls.{PairsArgument}
use Rattle.promises.specs.ExerciseCalls.{PairsExercise}

-- the two numbers of an answer: accepted, with a value; refused, with 01's number and a place
abbrev pub gives : (value : ℕ) → CAnswer
gives value = record { refusal = 0; value = value }

abbrev pub refuses : (number place : ℕ) → CAnswer
refuses number place = record { refusal = number; value = place }

-- marks, objectors and targets (from and to, of moves), what is asked, the lent rooms; the answer; the rooms after it
pub data ListsRow : Type 0 where
  labels lengths : (marks objectors targets room : List ℕ) → CAnswer → (after : List ℕ) → ListsRow
  labels_of_moves lengths_of_moves : (marks from to room : List ℕ) → CAnswer → (after : List ℕ) → ListsRow
  kinds : (marks objectors targets : List ℕ) (rooms : List ℕ × List ℕ) → CAnswer → (after : List ℕ × List ℕ) → ListsRow
  argument : (marks objectors targets : List ℕ) (place : ℕ) (room : List ℕ) → CAnswer → (after : List ℕ) → ListsRow
  exercise : (marks objectors targets : List ℕ) (place turns : ℕ) → CAnswer → ListsRow

abbrev pub OnListsSays : ListsRow → Type 0
OnListsSays (labels marks objectors targets room c after) = InC (λ a. PairsLabels marks objectors targets room a after) c
OnListsSays (lengths marks objectors targets room c after) = InC (λ a. PairsLengths marks objectors targets room a after) c
OnListsSays (labels_of_moves marks from to room c after) = InC (λ a. MovesLabels marks from to room a after) c
OnListsSays (lengths_of_moves marks from to room c after) = InC (λ a. MovesLengths marks from to room a after) c
OnListsSays (kinds marks objectors targets rooms c after) = InC (λ a. PairsKinds marks objectors targets rooms a after) c
OnListsSays (argument marks objectors targets place room c after) =
    InC (λ a. PairsArgument marks objectors targets place room a after) c
OnListsSays (exercise marks objectors targets place turns c) = InC (PairsExercise marks objectors targets place turns) c

unfoldable pub lists_table : List ListsRow
lists_table =
    -- no statement; one read, one unread; 0 against 2, 2 against 1, with 2 unread; the same as moves; two against each other
    labels [] [] [] (7 ∷ []) (gives 0) (7 ∷ [])
    ∷ labels (0 ∷ 1 ∷ []) [] [] (7 ∷ 7 ∷ 7 ∷ []) (gives 2) (1 ∷ 0 ∷ 7 ∷ [])
    ∷ labels (0 ∷ 0 ∷ 1 ∷ []) (0 ∷ 2 ∷ []) (2 ∷ 1 ∷ []) (7 ∷ 7 ∷ 7 ∷ 7 ∷ []) (gives 3) (1 ∷ 1 ∷ 2 ∷ 7 ∷ [])
    ∷ lengths (0 ∷ 0 ∷ 1 ∷ []) (0 ∷ 2 ∷ []) (2 ∷ 1 ∷ []) (7 ∷ 7 ∷ 7 ∷ 7 ∷ []) (gives 3) (0 ∷ 2 ∷ 1 ∷ 7 ∷ [])
    ∷ labels_of_moves (0 ∷ 0 ∷ 1 ∷ []) (2 ∷ 1 ∷ []) (0 ∷ 2 ∷ []) (7 ∷ 7 ∷ 7 ∷ 7 ∷ []) (gives 3) (1 ∷ 1 ∷ 2 ∷ 7 ∷ [])
    ∷ lengths_of_moves (0 ∷ 0 ∷ 1 ∷ []) (2 ∷ 1 ∷ []) (0 ∷ 2 ∷ []) (7 ∷ 7 ∷ 7 ∷ 7 ∷ []) (gives 3) (0 ∷ 2 ∷ 1 ∷ 7 ∷ [])
    ∷ lengths (0 ∷ 0 ∷ []) (0 ∷ 1 ∷ []) (1 ∷ 0 ∷ []) (7 ∷ 7 ∷ []) (gives 2) (65535 ∷ 65535 ∷ [])
    -- 11: "objector and target lists unequal in length"
    ∷ labels [] (0 ∷ []) [] (7 ∷ []) (refuses 11 0) (7 ∷ [])
    ∷ labels (0 ∷ []) [] (0 ∷ []) (7 ∷ []) (refuses 11 0) (7 ∷ [])
    ∷ labels_of_moves (0 ∷ []) (0 ∷ []) [] (7 ∷ []) (refuses 11 0) (7 ∷ [])
    -- 12: "mark other than 0 or 1"; "the first entry at fault reported"
    ∷ labels (2 ∷ []) [] [] (7 ∷ []) (refuses 12 0) (7 ∷ [])
    ∷ labels (0 ∷ 1 ∷ 2 ∷ 3 ∷ []) [] [] (7 ∷ []) (refuses 12 2) (7 ∷ [])
    ∷ lengths_of_moves (0 ∷ 255 ∷ []) [] [] (7 ∷ 7 ∷ []) (refuses 12 1) (7 ∷ 7 ∷ [])
    -- 13: "a place outside the mark list", the objector's or the target's
    ∷ labels (0 ∷ []) (1 ∷ []) (0 ∷ []) (7 ∷ []) (refuses 13 0) (7 ∷ [])
    ∷ labels (0 ∷ []) (0 ∷ 0 ∷ 9 ∷ []) (0 ∷ 1 ∷ 0 ∷ []) (7 ∷ []) (refuses 13 1) (7 ∷ [])
    ∷ labels (0 ∷ 0 ∷ []) (0 ∷ 1 ∷ 2 ∷ []) (0 ∷ 1 ∷ 0 ∷ []) (7 ∷ []) (refuses 13 2) (7 ∷ [])
    -- 8: "same objector and target as earlier"
    ∷ labels (0 ∷ []) (0 ∷ 0 ∷ []) (0 ∷ 0 ∷ []) (7 ∷ []) (refuses 8 1) (7 ∷ [])
    ∷ labels (0 ∷ 0 ∷ []) (0 ∷ 1 ∷ 0 ∷ 0 ∷ []) (1 ∷ 0 ∷ 0 ∷ 1 ∷ []) (7 ∷ []) (refuses 8 3) (7 ∷ [])
    -- 10: "lent room shorter than the answer"
    ∷ labels (0 ∷ 1 ∷ []) [] [] (7 ∷ []) (refuses 10 0) (7 ∷ [])
    ∷ lengths (0 ∷ []) [] [] [] (refuses 10 0) []
    -- two at once: "11, 6, 9, 12, 13, 8, then 14, 15, 10, each over the whole list"
    ∷ labels (0 ∷ 2 ∷ []) (2 ∷ []) (0 ∷ []) [] (refuses 12 1) []
    ∷ labels (0 ∷ []) (0 ∷ 0 ∷ 1 ∷ []) (0 ∷ 0 ∷ 0 ∷ []) [] (refuses 13 2) []
    ∷ labels (0 ∷ []) (1 ∷ 0 ∷ 0 ∷ []) (0 ∷ 0 ∷ 0 ∷ []) [] (refuses 13 0) []
    ∷ labels (0 ∷ []) (0 ∷ 0 ∷ []) (0 ∷ 0 ∷ []) [] (refuses 8 1) []
    ∷ argument (0 ∷ []) (0 ∷ 0 ∷ []) (0 ∷ 0 ∷ []) 1 [] (refuses 8 1) []
    -- kinds and their lengths, 0 idle, 1 felling, 2 delaying, 3 standoff: in the listing of 01; where an unread one falls; where
    -- one that falls has objectors that fall or are open
    ∷ kinds (0 ∷ 0 ∷ 0 ∷ 0 ∷ []) (1 ∷ 0 ∷ 2 ∷ 3 ∷ []) (0 ∷ 1 ∷ 1 ∷ 2 ∷ []) (7 ∷ 7 ∷ 7 ∷ 7 ∷ 7 ∷ [], 7 ∷ 7 ∷ 7 ∷ 7 ∷ [])
    (gives 4) (3 ∷ 3 ∷ 0 ∷ 1 ∷ 7 ∷ [], 65535 ∷ 65535 ∷ 65535 ∷ 1 ∷ [])
    ∷ kinds (1 ∷ 0 ∷ 0 ∷ []) (1 ∷ 0 ∷ []) (0 ∷ 2 ∷ []) (7 ∷ 7 ∷ [], 7 ∷ 7 ∷ 7 ∷ []) (gives 2) (1 ∷ 2 ∷ [], 1 ∷ 2 ∷ 7 ∷ [])
    ∷ kinds (0 ∷ 0 ∷ 0 ∷ 0 ∷ []) (0 ∷ 0 ∷ 1 ∷ 3 ∷ 3 ∷ []) (1 ∷ 2 ∷ 2 ∷ 3 ∷ 1 ∷ [])
    (7 ∷ 7 ∷ 7 ∷ 7 ∷ 7 ∷ [], 7 ∷ 7 ∷ 7 ∷ 7 ∷ 7 ∷ []) (gives 5) (1 ∷ 1 ∷ 0 ∷ 3 ∷ 0 ∷ [], 1 ∷ 1 ∷ 65535 ∷ 65535 ∷ 65535 ∷ [])
    ∷ kinds (0 ∷ []) (0 ∷ []) (0 ∷ []) ([], 7 ∷ []) (refuses 10 0) ([], 7 ∷ [])
    ∷ kinds (0 ∷ []) (0 ∷ []) (0 ∷ []) (7 ∷ [], []) (refuses 10 0) (7 ∷ [], [])
    ∷ kinds (0 ∷ []) (1 ∷ []) (0 ∷ []) ([], []) (refuses 13 0) ([], [])
    -- a line of argument by places: of one that stands in 2, of one that falls in 3, of one that is open; the earliest objector
    ∷ argument (0 ∷ 0 ∷ 1 ∷ []) (0 ∷ 2 ∷ []) (2 ∷ 1 ∷ []) 1 (7 ∷ 7 ∷ 7 ∷ 7 ∷ []) (gives 3) (1 ∷ 2 ∷ 0 ∷ 7 ∷ [])
    ∷ argument (1 ∷ 0 ∷ 0 ∷ 0 ∷ []) (3 ∷ 2 ∷ 1 ∷ []) (2 ∷ 1 ∷ 0 ∷ []) 0 (7 ∷ 7 ∷ 7 ∷ 7 ∷ []) (gives 4) (0 ∷ 1 ∷ 2 ∷ 3 ∷ [])
    ∷ argument (1 ∷ []) [] [] 0 (7 ∷ 7 ∷ []) (gives 1) (0 ∷ 7 ∷ [])
    ∷ argument (0 ∷ 0 ∷ 0 ∷ []) (2 ∷ 1 ∷ []) (0 ∷ 0 ∷ []) 0 (7 ∷ 7 ∷ []) (gives 2) (0 ∷ 1 ∷ [])
    ∷ argument (0 ∷ 0 ∷ []) (0 ∷ []) (1 ∷ []) 1 (7 ∷ []) (refuses 10 0) (7 ∷ [])
    ∷ argument (0 ∷ []) [] [] 1 [] (refuses 14 0) []
    -- the class exercise: 2 falls, 1 stands, 0 neither within so many turns
    ∷ exercise (0 ∷ 0 ∷ 1 ∷ []) (0 ∷ 2 ∷ []) (2 ∷ 1 ∷ []) 2 1 (gives 2)
    ∷ exercise (0 ∷ 0 ∷ 1 ∷ []) (0 ∷ 2 ∷ []) (2 ∷ 1 ∷ []) 2 0 (gives 0)
    ∷ exercise (0 ∷ 0 ∷ 1 ∷ []) (0 ∷ 2 ∷ []) (2 ∷ 1 ∷ []) 1 6 (gives 1)
    ∷ exercise (0 ∷ 0 ∷ 1 ∷ []) (0 ∷ 2 ∷ []) (2 ∷ 1 ∷ []) 1 1 (gives 0)
    ∷ exercise (1 ∷ []) [] [] 0 6 (gives 0)
    ∷ exercise (0 ∷ []) [] [] 1 0 (refuses 14 0)
    ∷ exercise (0 ∷ []) [] [] 0 7 (refuses 15 0)
    ∷ exercise (0 ∷ []) [] [] 1 7 (refuses 14 0)
    ∷ exercise (2 ∷ []) [] [] 1 7 (refuses 12 0)
    -- 6: "over 1,024 marks"; 9: "over 4,096 pairs"; not one less, and in that order
    ∷ labels (replicate 1025 0) [] [] (7 ∷ []) (refuses 6 0) (7 ∷ [])
    ∷ labels (replicate 1024 2) [] [] (7 ∷ []) (refuses 12 0) (7 ∷ [])
    ∷ lengths (0 ∷ []) (replicate 4097 0) (replicate 4097 0) (7 ∷ []) (refuses 9 0) (7 ∷ [])
    ∷ lengths [] (replicate 4096 0) (replicate 4096 0) (7 ∷ []) (refuses 13 0) (7 ∷ [])
    ∷ labels (replicate 1025 0) (0 ∷ []) [] [] (refuses 11 0) []
    ∷ labels (replicate 1025 0) (replicate 4097 0) (replicate 4097 0) [] (refuses 6 0) []
    ∷ labels (2 ∷ []) (replicate 4097 0) (replicate 4097 0) [] (refuses 9 0) []
    ∷ []
