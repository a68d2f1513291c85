-- The rules of 01 as a definition that computes, and the class exercise's two questions, which are the same. That they
-- say what the game means is proved.
use Rattle.std.specs.Prelude.{Bool, false, not, ◌&&◌, ◌||◌, ℕ, zero, suc}
use Rattle.game.specs.Book.{Book, any, all}

-- "does it fall within so many turns, does it stand within so many", "each asked through the other with one turn less".
-- "Nothing falls within 0. Standing within 0 means read and without objectors." "Falls: some objector stands." "Stands:
-- read, and every objector falls."
unfoldable mutual
  pub falls_within : Book → ℕ → ℕ → Bool
  falls_within B zero x = false
  falls_within B (suc n) x = any B.size (λ y. B.objects y x && stands_within B n y)

  pub stands_within : Book → ℕ → ℕ → Bool
  stands_within B zero x = not (B.unread x) && all B.size (λ y. not (B.objects y x))
  stands_within B (suc n) x = not (B.unread x) && all B.size (λ y. not (B.objects y x) || falls_within B n y)
