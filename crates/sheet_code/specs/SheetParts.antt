-- What the code promises of codes and sheets, not for callers of the product: one code set, codes by the numbers of labels, and a
-- sheet that has them.
use Rattle.std.specs.Prelude.{List, ◌≡◌, ℕ, ◌-◌, ◌*◌, ◌%◌, ◌^◌, ◌≤◌, ◌<◌, ◌/◌, length, get_or}
use Rattle.std.specs.Int.Bits.{bit_or, bit_and}
use Rattle.game.specs.Book.{Book}
use Rattle.game.specs.Label.{Verdict, Means}
use Rattle.game.specs.Account.{label_number}
use Rattle.answer.specs.Answer.{Begins}
use Rattle.sheet.specs.Sheet.{code_at, codes, total, bytes_for}

-- the byte b with the code c in place p, made by shift and mask
abbrev pub put : ℕ → ℕ → ℕ → ℕ
put b p c = bit_or (bit_and b (255 - 3 * 2 ^ (2 * p) % 256)) (c * 2 ^ (2 * p) % 256)

-- no bit is set beyond the n statements
abbrev pub Spare : (n : ℕ) → List ℕ → Type 0
Spare n sheet = (x : ℕ) → n ≤ x → code_at sheet x ≡ 0

-- the totals that are handed over are these counts
abbrev pub Own : (counts totals : List ℕ) → Type 0
Own counts totals = (c : ℕ) → c < codes → c < length totals → get_or totals c 0 ≡ get_or counts c 0

-- for each code, how many of the n statements have it
abbrev pub Tallied : List ℕ → (n : ℕ) → (counts : List ℕ) → Type 0
Tallied sheet n counts = (c : ℕ) → c < 4 → get_or counts c 0 ≡ total sheet n c

-- labels of n statements that a sheet can be made of, and room for the totals
pub record Codable (n : ℕ) (labels totals : List ℕ) : Type 0 where
  pub few : n ≤ 1024
  pub labels_room : n ≤ length labels
  pub totals_room : codes ≤ length totals
  pub small : (x : ℕ) → x < n → get_or labels x 0 < codes

-- the sheet has the codes of the first n statements; beyond them it is as it was
pub record Coded (n : ℕ) (labels old new : List ℕ) : Type 0 where
  pub each : (x : ℕ) → x < n → code_at new x ≡ get_or labels x 0
  pub rest : (x : ℕ) → n ≤ x → code_at new x ≡ code_at old x

-- a whole sheet of the labels, and its totals at the beginning of their room
pub record Filled (n : ℕ) (labels sheet totals after : List ℕ) : Type 0 where
  pub bytes : (k : ℕ) → get_or sheet k 0 < 256
  pub size : length sheet ≡ bytes_for n
  pub each : (x : ℕ) → x < n → code_at sheet x ≡ get_or labels x 0
  pub spare : Spare n sheet
  pub counted : Begins codes (λ c e. e ≡ total sheet n c) totals after

-- the labels are those of a book of n statements
pub record LabelsOf (B : Book) (n : ℕ) (labels : List ℕ) : Type 0 where
  pub size : B.size ≡ n
  pub each : (x : ℕ) → x < n → (v : Verdict) × Means B x v × (get_or labels x 0 ≡ label_number v)

-- What setting the code of x does: it is read back, every other code is as it was, and so is every other byte.
pub record CodeSet (old : List ℕ) (x code : ℕ) (new : List ℕ) : Type 0 where
  pub has : code_at new x ≡ code
  pub others : (y : ℕ) → (y ≡ x → ⊥) → code_at new y ≡ code_at old y
  pub bytes : (k : ℕ) → (k ≡ x / 4 → ⊥) → get_or new k 0 ≡ get_or old k 0
