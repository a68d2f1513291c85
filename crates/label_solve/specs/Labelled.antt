-- What the solver promises: labels and lengths that are the meaning's.
use Rattle.std.specs.Prelude.{List, ◌≡◌, ℕ, ◌≤◌, get_or, length}
use Rattle.game.specs.Book.{Book, Listed, book_of}
use Rattle.game.specs.Label.{Verdict, Means}
use Rattle.game.specs.Account.{label_number, length_number}
use Rattle.lists.specs.Handed.{Handed}

-- The numbers `label` and `length` are those of x's label and length.
pub record Told (B : Book) (x label length : ℕ) : Type 0 where
  pub verdict : Verdict
  pub means : Means B x verdict
  pub label_is : label ≡ label_number verdict
  pub length_is : length ≡ length_number verdict

-- each listed statement has its own label and length
pub record Labelled (B : Book) (labels lengths : List ℕ) : Type 0 where
  pub told : (x : ℕ) → Listed B x → Told B x (get_or labels x 0) (get_or lengths x 0)

-- What the solver leaves in two rooms that are long enough: the labels and lengths, and beyond them what was there.
pub record Solved (marks objectors targets labels lengths labels' lengths' : List ℕ) : Type 0 where
  pub labelled : Labelled (book_of marks objectors targets) labels' lengths'
  pub labels_rest : (k : ℕ) → length marks ≤ k → get_or labels' k 0 ≡ get_or labels k 0
  pub lengths_rest : (k : ℕ) → length marks ≤ k → get_or lengths' k 0 ≡ get_or lengths k 0

-- A register that is in order and labelled: what is asked of it by whatever goes by its labels.
pub record ListsLabelled (marks objectors targets labels lengths : List ℕ) : Type 0 where
  pub handed : Handed marks objectors targets
  pub labelled : Labelled (book_of marks objectors targets) labels lengths
  pub labels_room : length marks ≤ length labels
  pub lengths_room : length marks ≤ length lengths
