-- A label sheet: two bits for each statement, and totals beside it. What stands on a sheet is said by how it is read; the labels
-- are the meaning's.
use Rattle.std.specs.Prelude.{List, ◌≡◌, ℕ, ◌+◌, ◌/◌, ◌%◌, ◌^◌, ◌≤◌, ◌<◌, eqb, get_or, length}
use Rattle.game.specs.Book.{count, Book, Listed}
use Rattle.game.specs.Account.{Account, OfStatement, account_number}

-- "Two bits for each statement in listed order, four to a byte, the first in the lowest bits": the code at a place of a byte, and
-- the code of the statement x.
abbrev pub in_byte : (byte place : ℕ) → ℕ
in_byte b p = b / 4 ^ p % 4

unfoldable pub code_at : (sheet : List ℕ) → ℕ → ℕ
code_at sheet x = in_byte (get_or sheet (x / 4) 0) (x % 4)

-- the bytes of a sheet of n statements
abbrev pub bytes_for : ℕ → ℕ
bytes_for n = (n + 3) / 4

-- "0 open, 1 stands, 2 falls, 3 unused": the codes below this one are in use, and each has its total
abbrev pub codes : ℕ
codes = 3

-- how many of the n statements have this code
unfoldable pub total : (sheet : List ℕ) → (n code : ℕ) → ℕ
total sheet n code = count n (λ x. eqb (code_at sheet x) code)

-- The sheet of a book. "Spare bits of the last byte are 0."
pub record IsSheet (B : Book) (sheet : List ℕ) : Type 0 where
  pub bytes : (k : ℕ) → get_or sheet k 0 < 256
  pub size : length sheet ≡ bytes_for B.size
  pub each : (x : ℕ) → Listed B x → (a : Account) × OfStatement B x a × (code_at sheet x ≡ account_number a)
  pub spare : (x : ℕ) → B.size ≤ x → code_at sheet x ≡ 0

-- A sheet of n statements, of whatever register, with the totals beside it: "no 3, the register's size, no spare bit set and its
-- own totals". Totals that are not handed over are not wrong ones.
pub record SoundSheet (n : ℕ) (sheet totals : List ℕ) : Type 0 where
  pub size : length sheet ≡ bytes_for n
  pub used : (x : ℕ) → x < n → code_at sheet x < codes
  pub spare : (x : ℕ) → n ≤ x → code_at sheet x ≡ 0
  pub own : (c : ℕ) → c < codes → c < length totals → get_or totals c 0 ≡ total sheet n c
