-- Agreement: a label with its length held against the statement's own mark and its own objectors only. The rules of 01
-- with exact lengths.
use Rattle.std.specs.Prelude.{◌⊎◌, ◌≡◌, ℕ, suc, ◌≤◌, ◌<◌}
use Rattle.game.specs.Book.{Book, Objects, Read, Unread, Listed}
use Rattle.game.specs.Label.{Verdict, falls, stands, is_open}

-- v says of each statement a verdict. Fits B v x w: w is what the rules make of x, from what v says of its objectors.
-- "Falls: some objector stands. Length is 1 plus the least length of a standing objector."
-- "Stands: read, and every objector falls. Length is 1 plus the greatest length of an objector, or 0 with none."
-- Open: no objector stands, and x is unread or some objector is open.
abbrev pub Fits : Book → (ℕ → Verdict) → ℕ → Verdict → Type 0
Fits B v x (falls n) =
    (m : ℕ) × (n ≡ suc m) × ((y : ℕ) × Objects B y x × (v y ≡ stands m))
    × ((z k : ℕ) → Objects B z x → v z ≡ stands k → m ≤ k)
Fits B v x (stands n) =
    Read B x × ((z : ℕ) → Objects B z x → (k : ℕ) × (v z ≡ falls k) × (k < n))
    × ((m : ℕ) → n ≡ suc m → (y : ℕ) × Objects B y x × (v y ≡ falls m))
Fits B v x is_open =
    ((z k : ℕ) → Objects B z x → v z ≡ stands k → ⊥) × (Unread B x ⊎ ((y : ℕ) × Objects B y x × (v y ≡ is_open)))

-- every listed statement's verdict agrees
abbrev pub Agrees : Book → (ℕ → Verdict) → Type 0
Agrees B v = (x : ℕ) → Listed B x → Fits B v x (v x)
