-- What the numbers of a label and a length say, by label number.
use mathlib.Core.Path.{◌≡◌}
use Prim.Native.Nat.{ℕ}
use borrow.Author.Tests.{ne_eqb}
use Rattle.game.specs.Label.{falls, stands, is_open}
use Rattle.listing_row.specs.Said.{said}

pub said_falls : (l n : ℕ) → l ≡ 2 → said l n ≡ falls n
unfolding said
said_falls l n p = rw p

pub said_stands : (l n : ℕ) → l ≡ 1 → said l n ≡ stands n
unfolding said
said_stands l n p = rw p

pub said_open : (l n : ℕ) → (l ≡ 2 → ⊥) → (l ≡ 1 → ⊥) → said l n ≡ is_open
unfolding said
said_open l n p q = rw (ne_eqb l 2 p, ne_eqb l 1 q)
