-- The two ends of an objection as the code tells them: not for callers of the product.
use Rattle.std.specs.Prelude.{ℕ, ◌<◌}
use Rattle.game.specs.Book.{Book, Objects}
use Rattle.label_solve.specs.Labelled.{Told}

-- What `kind_of` is told of an objection: the numbers of the labels of its two ends and of the objector's length, in
-- some book that is small enough for 65,535 to be no length.
pub record Ends (target objector length : ℕ) : Type 0 where
  pub book : Book
  pub small : book.size < 65535
  pub y : ℕ
  pub x : ℕ
  pub objects : Objects book y x
  pub target_length : ℕ
  pub target_told : Told book x target target_length
  pub objector_told : Told book y objector length
